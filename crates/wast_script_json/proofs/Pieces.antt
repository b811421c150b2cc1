-- The JSON of a script, written in pieces.
use Rattle.std.proofs.Common.{◌≡◌, ℕ, ◌+◌, ◌<◌, ◌≤◌, Bool, true, List, [], ◌∷◌, ◌++◌, length, get_or, drop, Option, refl, sym, ap, ◌∙◌}
use Rattle.std.proofs.Common.{subst, append_assoc, append-nil}
use Rattle.std.proofs.lemmas.List.{drop_more, drop_all}
use Rattle.std.specs.Io.KnownBytes.{Appends}
use Rattle.std.proofs.KnownBytes.{Appends-nil, Appends-trans}
use Rattle.wast_script.specs.declared.commands.Command.{Command}
use Rattle.wast_script.specs.declared.scripts.Script.{Script}
use Rattle.wast_script_json.specs.declared.modules.ConvertedModule.{ConvertedModule}
use Rattle.wast_script_json.specs.declared.commands.ScriptJson.{ScriptJson}
use Rattle.wast_script_json.specs.Json.{written}
use Rattle.wast_script_json.specs.Commands.{command_text, opens}
use Rattle.wast_script_json.specs.References.{State, nothing_known}
use Rattle.wast_script_json.specs.Known.{Knows}
use Rattle.wast_script_json.specs.Places.{Counts}
use Rattle.wast_script_json.specs.Files.{beginning, closing, Converted, module_for, modules_after, has_module, with_modules, AreCommands}
use Rattle.wast_script_json.specs.Files.{IsJson, Stands, Writes, IsCut, Passes, PassesAll, PrintsJson}

-- before the first command
pub begins : (text : List ℕ) (w : ScriptJson) → Counts text w.lines → Knows w.instances nothing_known → w.is_first ≡ true → Stands text nothing_known true w
begins text w counts knows first = record { counts = counts; knows = knows; first = first }

-- no piece, and a piece that is the whole text
pub uncut : (v : ScriptJson) (old : Option (List ℕ)) → IsCut v v old old
uncut v old = record { piece = []; printed = Appends-nil old; text = refl; stands = λ text s is_first h. h }

pub cut : (v w : ScriptJson) (old new : Option (List ℕ)) (bytes : List ℕ) → Appends old new bytes → bytes ≡ written v.json → written w.json ≡ []
    → ((text : List ℕ) (s : State) (is_first : Bool) → Stands text s is_first v → Stands text s is_first w) → IsCut v w old new
cut v w old new bytes printed same none stands = record {
  piece = bytes;
  printed = printed;
  text = ap (λ (l : List ℕ). bytes ++ l) none ∙ append-nil bytes ∙ same;
  stands = stands;
}

-- a command, and a piece after it
pub passes : (script : Script) (s : State) (is_first : Bool) (c : Command) (m : Option ConvertedModule) (v u w : ScriptJson) (old new : Option (List ℕ))
    → Writes script s is_first c m v u → IsCut u w old new → Passes script s is_first c m v w old new
passes script s is_first c m v u w old new wrote piece = record {
  next = wrote.next;
  after = wrote.after;
  stands = piece.stands script.text.now wrote.next (opens c.kind) wrote.stands;
  piece = piece.piece;
  printed = piece.printed;
  text = piece.text ∙ wrote.text;
}

-- how far the loop over the commands has come: the commands that are left, and what the text is with them
pub record Reached (script : Script) (s : State) (is_first : Bool) (cs left : Converted) (v w : ScriptJson) (old new : Option (List ℕ)) : Type 0 where
  pub state : State
  pub first : Bool
  pub stands : Stands script.text.now state first w
  pub piece : List ℕ
  pub printed : Appends old new piece
  pub onward : (rest : List ℕ) → AreCommands script state first left rest
      → (all : List ℕ) × AreCommands script s is_first cs all × (piece ++ (written w.json ++ rest) ≡ written v.json ++ all)

pub reached_none : (script : Script) (s : State) (is_first : Bool) (cs : Converted) (v : ScriptJson) (old : Option (List ℕ))
    → Stands script.text.now s is_first v
    → Reached script s is_first cs cs v v old old
reached_none script s is_first cs v old at = record {
  state = s;
  first = is_first;
  stands = at;
  piece = [];
  printed = Appends-nil old;
  onward = λ rest h. (rest, h, refl);
}

regrouped : (a b w u t r : List ℕ) → b ++ w ≡ u ++ t → (a ++ b) ++ (w ++ r) ≡ a ++ (u ++ (t ++ r))
regrouped a b w u t r e =
    append_assoc a b (w ++ r) ∙ ap (λ (l : List ℕ). a ++ l) (sym (append_assoc b w r) ∙ ap (λ (l : List ℕ). l ++ r) e ∙ append_assoc u t r)

one_more : (script : Script) (s : State) (is_first : Bool) (c : Command) (m : Option ConvertedModule) (cs : Converted) (t : State) (rest : List ℕ)
    (v w : ScriptJson) (old new : Option (List ℕ)) (p : Passes script s is_first c m v w old new) → AreCommands script p.next (opens c.kind) cs rest
    → AreCommands script s is_first ((c, m) ∷ cs) (command_text script s is_first c m ++ rest)
unfolding AreCommands
one_more script s is_first c m cs t rest v w old new p h = (p.next, rest, p.after, h, refl)

reached_one : (script : Script) (s : State) (is_first : Bool) (cs left : Converted) (c : Command) (m : Option ConvertedModule) (v u w : ScriptJson)
    (old mid new : Option (List ℕ)) → Reached script s is_first cs ((c, m) ∷ left) v u old mid
    → ((t : State) (b : Bool) → Stands script.text.now t b u → Passes script t b c m u w mid new) → Reached script s is_first cs left v w old new
reached_one script s is_first cs left c m v u w old mid new r step =
    let p = step r.state r.first r.stands in
    record {
      state = p.next;
      first = opens c.kind;
      stands = p.stands;
      piece = r.piece ++ p.piece;
      printed = Appends-trans old mid new r.piece p.piece r.printed p.printed;
      onward = λ rest h.
          let text = command_text script r.state r.first c m in
          let o = r.onward (text ++ rest) (one_more script r.state r.first c m left p.next rest u w mid new p h) in
          (o.0, o.1, regrouped r.piece p.piece (written w.json) (written u.json) text rest p.text ∙ o.2);
    }

next_left : (cs : List Command) (ms : List ConvertedModule) (i : ℕ) (d : Command) → i < length cs
    → with_modules (drop i cs) ms
    ≡ (get_or cs i d, module_for (has_module (get_or cs i d).kind) ms) ∷ with_modules (drop (i + 1) cs) (modules_after (has_module (get_or cs i d).kind) ms)
unfolding with_modules
next_left cs ms i d few = ap (λ (ds : List Command). with_modules ds ms) (drop_more cs i d few)

-- the loop over the commands: one more of them, and all
pub reached_next : (script : Script) (s : State) (is_first : Bool) (all : Converted) (cs : List Command) (ms rest : List ConvertedModule) (i : ℕ)
    (d : Command) (has : Bool)
    (m : Option ConvertedModule) (v u w : ScriptJson) (old mid new : Option (List ℕ)) → i < length cs → has ≡ has_module (get_or cs i d).kind
    → m ≡ module_for has ms
    → rest ≡ modules_after has ms → Reached script s is_first all (with_modules (drop i cs) ms) v u old mid
    → ((t : State) (b : Bool) → Stands script.text.now t b u → Passes script t b (get_or cs i d) m u w mid new)
    → Reached script s is_first all (with_modules (drop (i + 1) cs) rest) v w old new
reached_next script s is_first all cs ms rest i d has m v u w old mid new few needs is left r step =
    let c = get_or cs i d in
    let first = is ∙ ap (λ (b : Bool). module_for b ms) needs in
    let after = left ∙ ap (λ (b : Bool). modules_after b ms) needs in
    reached_one script s is_first all (with_modules (drop (i + 1) cs) rest) c m v u w old mid new
    (subst (λ (ls : Converted). Reached script s is_first all ls v u old mid)
    (next_left cs ms i d few ∙ ap (λ (o : Option ConvertedModule). (c, o) ∷ with_modules (drop (i + 1) cs) (modules_after (has_module c.kind) ms)) (sym first)
    ∙ ap (λ (ls : List ConvertedModule). (c, m) ∷ with_modules (drop (i + 1) cs) ls) (sym after)) r)
    step

no_left : (cs : List Command) (ms : List ConvertedModule) (i : ℕ) → length cs ≤ i → with_modules (drop i cs) ms ≡ []
unfolding with_modules
no_left cs ms i none = ap (λ (ds : List Command). with_modules ds ms) (drop_all i cs none)

no_commands : (script : Script) (s : State) (is_first : Bool) → AreCommands script s is_first [] []
unfolding AreCommands
no_commands script s is_first = refl

pub reached_all : (script : Script) (s : State) (is_first : Bool) (all : Converted) (cs : List Command) (ms : List ConvertedModule) (i : ℕ) (v w : ScriptJson)
    (old new : Option (List ℕ)) → length cs ≤ i → Reached script s is_first all (with_modules (drop i cs) ms) v w old new
    → PassesAll script s is_first all v w old new
reached_all script s is_first all cs ms i v w old new none r =
    let o = r.onward [] (subst (λ (ls : Converted). AreCommands script r.state r.first ls []) (sym (no_left cs ms i none))
    (no_commands script r.state r.first)) in
    record {
      all = o.0;
      commands = o.1;
      piece = r.piece;
      printed = r.printed;
      text = ap (λ (l : List ℕ). r.piece ++ l) (sym (append-nil (written w.json))) ∙ o.2;
    }

-- the whole: its beginning, the commands, and its end
closed : (piece v w e source all : List ℕ) → v ≡ beginning source → piece ++ w ≡ v ++ all → e ≡ w ++ closing → piece ++ e ≡ beginning source ++ (all ++ closing)
closed piece v w e source all begins text ends =
    ap (λ (l : List ℕ). piece ++ l) ends ∙ sym (append_assoc piece w closing) ∙ ap (λ (l : List ℕ). l ++ closing) (text ∙ ap (λ (l : List ℕ). l ++ all) begins)
    ∙ append_assoc (beginning source) all closing

json_of : (script : Script) (source text all : List ℕ) (cs : Converted) → AreCommands script nothing_known true cs all
    → text ≡ beginning source ++ (all ++ closing)
    → IsJson script source cs text
unfolding IsJson
json_of script source text all cs commands parts = (all, commands, parts)

pub prints : (script : Script) (source bytes : List ℕ) (cs : Converted) (v w e : ScriptJson) (old mid new : Option (List ℕ)) → written v.json ≡ beginning source
    → PassesAll script nothing_known true cs v w old mid → written e.json ≡ written w.json ++ closing → bytes ≡ written e.json → Appends mid new bytes
    → PrintsJson script source cs old new
prints script source bytes cs v w e old mid new begins p ends same last = record {
  text = p.piece ++ bytes;
  is_json = json_of script source (p.piece ++ bytes) p.all cs p.commands
      (closed p.piece (written v.json) (written w.json) bytes source p.all begins p.text (same ∙ ends));
  printed = Appends-trans old mid new p.piece bytes p.printed last;
}
