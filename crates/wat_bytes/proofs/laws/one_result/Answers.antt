use Rattle.wat_bytes.proofs.OneError.{same_error}
use Rattle.wat_bytes.proofs.OneList.{same_number, same_look_up, same_list, same_listing}
use Rattle.wat_bytes.proofs.OneText.{same_bytes, same_success}
use Rattle.wat_bytes.proofs.laws.one_result.Goals as goal

pub returns-clause-bytes : goal.returns-clause-bytes
returns-clause-bytes c = same_bytes

pub returns-clause-success : goal.returns-clause-success
returns-clause-success c = same_success

pub returns-clause-error : goal.returns-clause-error
returns-clause-error c = same_error

pub returns-clause-number : goal.returns-clause-number
returns-clause-number c = same_number

pub returns-clause-look_up : goal.returns-clause-look_up
returns-clause-look_up c = same_look_up

pub returns-clause-list : goal.returns-clause-list
returns-clause-list c = same_list

pub returns-clause-listing : goal.returns-clause-listing
returns-clause-listing c = same_listing
