-- The goals of `command_of`: each is what a function ensures at the verb of its arm, where it has no values by a lemma of Acting.
use Rattle.wast_script.proofs.Acting.{plain_decided}
use Rattle.wast_script.proofs.reader.Reader.command_of.Goals as goal

pub returns-in-Module : goal.returns-in-Module
returns-in-Module c = let e = c.module_command.ensures in rw c.in-Module.is (plain_decided _ _ _ _ _ e.decides e.plain e.few)

pub returns-in-Register : goal.returns-in-Register
returns-in-Register c = let e = c.register_command.ensures in rw c.in-Register.is (plain_decided _ _ _ _ _ e.decides e.plain e.few)

pub returns-in-Invoke : goal.returns-in-Invoke
returns-in-Invoke c = rw c.in-Invoke.is c.action_command.ensures

pub returns-in-Get : goal.returns-in-Get
returns-in-Get c = rw c.in-Get.is c.action_command-in-Get.ensures

pub returns-in-AssertReturn : goal.returns-in-AssertReturn
returns-in-AssertReturn c = rw c.in-AssertReturn.is c.return_command.ensures

pub returns-in-AssertTrap : goal.returns-in-AssertTrap
returns-in-AssertTrap c = rw c.in-AssertTrap.is c.trap_command.ensures

pub returns-in-AssertExhaustion : goal.returns-in-AssertExhaustion
returns-in-AssertExhaustion c = rw c.in-AssertExhaustion.is c.exhaustion_command.ensures

pub returns-in-AssertException : goal.returns-in-AssertException
returns-in-AssertException c = rw c.in-AssertException.is c.exception_command.ensures

pub returns-in-AssertSuspension : goal.returns-in-AssertSuspension
returns-in-AssertSuspension c = rw c.in-AssertSuspension.is c.suspension_command.ensures

pub returns-in-AssertMalformed : goal.returns-in-AssertMalformed
returns-in-AssertMalformed c = let e = c.malformed_command.ensures in rw c.in-AssertMalformed.is (plain_decided _ _ _ _ _ e.decides e.plain e.few)

pub returns-in-AssertMalformedCustom : goal.returns-in-AssertMalformedCustom
returns-in-AssertMalformedCustom c = let e = c.malformed_custom_command.ensures in
    rw c.in-AssertMalformedCustom.is (plain_decided _ _ _ _ _ e.decides e.plain e.few)

pub returns-in-AssertInvalid : goal.returns-in-AssertInvalid
returns-in-AssertInvalid c = let e = c.invalid_command.ensures in rw c.in-AssertInvalid.is (plain_decided _ _ _ _ _ e.decides e.plain e.few)

pub returns-in-AssertInvalidCustom : goal.returns-in-AssertInvalidCustom
returns-in-AssertInvalidCustom c = let e = c.invalid_custom_command.ensures in rw c.in-AssertInvalidCustom.is (plain_decided _ _ _ _ _ e.decides e.plain e.few)

pub returns-in-AssertUnlinkable : goal.returns-in-AssertUnlinkable
returns-in-AssertUnlinkable c = let e = c.unlinkable_command.ensures in rw c.in-AssertUnlinkable.is (plain_decided _ _ _ _ _ e.decides e.plain e.few)

pub returns-in-Thread : goal.returns-in-Thread
returns-in-Thread c = let e = c.thread_command.ensures in rw c.in-Thread.is (plain_decided _ _ _ _ _ e.decides e.plain e.few)

pub returns-in-Wait : goal.returns-in-Wait
returns-in-Wait c = let e = c.wait_command.ensures in rw c.in-Wait.is (plain_decided _ _ _ _ _ e.decides e.plain e.few)
