-- Values and results in JSON, as the prover computes them.
use Rattle.std.specs.Prelude.{◌≡◌, false, [], ◌∷◌, codes, negsuc, pos, None, Some}
use Rattle.wast_tree_nodes.specs.declared.types.AbstractHeapType.TheVariants as abstract
use Rattle.wast_tree_nodes.specs.declared.types.HeapType.TheVariants as heap
use Rattle.wast_script.specs.declared.values.Number.TheVariants as num
use Rattle.wast_script.specs.declared.values.Shape.TheVariants as shape
use Rattle.wast_script.specs.declared.values.Value.TheVariants as val
use Rattle.wast_script_json.specs.Values.{value_text, vector_text, list_text, results_text}

-- The bits of -1 as an `i32`, a canonical NaN, two lanes, the null reference of `func`, and any reference to a function.
abbrev pub WorkedValues : Type 0
WorkedValues = (value_text [] (val.I32 (negsuc 0)) ≡ codes "{\"type\": \"i32\", \"value\": \"4294967295\"}")
    × (value_text [] (val.F32 num.Canonical) ≡ codes "{\"type\": \"f32\", \"value\": \"nan:canonical\"}")
    × (vector_text shape.I64x2 (num.Bits 1 ∷ num.Bits 2 ∷ []) ≡ codes "{\"type\": \"v128\", \"lane_type\": \"i64\", \"value\": [\"1\", \"2\"]}")
    × (value_text [] (val.RefNull (Some (heap.Abstract false abstract.Func))) ≡ codes "{\"type\": \"funcref\", \"value\": \"null\"}")
    × (value_text [] (val.RefFunc None) ≡ codes "{\"type\": \"funcref\", \"value\": \"0\"}")

-- Two results, and results that are one `either` of two.
abbrev pub WorkedResults : Type 0
WorkedResults = (results_text [] (val.RefExtern None ∷ val.I64 (pos 2) ∷ []) ≡ codes ", \"expected\": [{\"type\": \"externref\"}, {\"type\": \"i64\", \"value\": \"2\"}]")
    × (results_text [] (val.Either 2 ∷ val.I32 (pos 0) ∷ val.I32 (pos 1) ∷ [])
    ≡ codes ", \"either\": [{\"type\": \"i32\", \"value\": \"0\"}, {\"type\": \"i32\", \"value\": \"1\"}]")
    × (list_text [] (val.Either 2 ∷ val.RefExtern None ∷ val.RefNull None ∷ val.RefExtern None ∷ [])
    ≡ codes "[{\"type\": \"either\", \"values\": [{\"type\": \"externref\"}, {\"type\": \"refnull\"}]}, {\"type\": \"externref\"}]")
