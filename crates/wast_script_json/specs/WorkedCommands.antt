-- Objects of commands, and the beginning of the file, as the prover computes them.
use Rattle.std.specs.Prelude.{◌≡◌, ℕ, true, codes, Some}
use Rattle.wast_base.specs.Ids.{source_id, text_start}
use Rattle.wast_base.specs.declared.ids.Id.{Id}
use Rattle.wast_script_json.specs.Commands.{dependent, place_text, assertion_text, register_text, wait_text}
use Rattle.wast_script_json.specs.Files.{beginning}

-- the id `$m`, at an address
abbrev pub m_at : ℕ → Id
m_at n = source_id (record { ref_ptr = (n, 0); now = codes "m" }) text_start

-- A registration, a wait, an assertion that a text is malformed, a command that is skipped, the position of a construct, and the
-- beginning of the file.
abbrev pub WorkedCommands : Type 0
WorkedCommands = ((n : ℕ) → register_text 2 (codes "a") (Some (m_at n)) ≡ codes "  {\"type\": \"register\", \"line\": 2, \"name\": \"$m\", \"as\": \"a\"}")
    × ((n : ℕ) → wait_text 9 (m_at n) ≡ codes "  {\"type\": \"wait\", \"line\": 9, \"thread\": \"$m\"}")
    × (assertion_text 3 (codes "assert_malformed") (codes "s.1.wat") (Some (codes "end")) true
    ≡ codes "  {\"type\": \"assert_malformed\", \"line\": 3, \"filename\": \"s.1.wat\", \"text\": \"end\", \"module_type\": \"text\"}")
    × (dependent 4 (codes "action") ≡ codes "  {\"type\": \"skipped\", \"line\": 4, \"command\": \"action\", \"reason\": \"its module is skipped\"}")
    × (place_text (2, 7) ≡ codes "{\"line\": 2, \"column\": 7}")
    × (beginning (codes "s.wast") ≡ codes "{\"source_filename\": \"s.wast\",\n \"commands\": [\n")
