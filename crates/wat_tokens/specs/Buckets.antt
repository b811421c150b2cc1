-- How the code has the words: in a hash table of 1024 buckets, with their texts one after another. The table that this has to agree with is
-- `words` of Words.antt.
use Rattle.std.specs.Prelude.{ℕ, zero, suc, ◌+◌, ◌*◌, ◌-◌, ◌%◌, ◌^◌, List, [], ◌∷◌, length, slice_range, slice_index_or}
use Rattle.wast_base.specs.declared.plain.BareOp.TheVariants as bare
use Rattle.wast_base.specs.declared.plain.Plain.TheVariants as plain
use Rattle.wat_tokens.specs.declared.words.Word.{Word}
use Rattle.wat_tokens.specs.declared.words.Word.TheVariants as word
use Rattle.wat_tokens.specs.declared.words.TheConstants.{FIRSTS, WORDS, LETTERS, STARTS}

-- where the text of a word begins
unfoldable pub start_of : ℕ → ℕ
start_of n = slice_index_or STARTS n 0

-- the text of a word
unfoldable pub text_of : ℕ → List ℕ
text_of n = slice_range LETTERS.now (start_of n) (start_of (n + 1))

-- the word with a number, or any if there are not so many
unfoldable pub word_at : ℕ → Word
word_at n = slice_index_or WORDS n (word.Plain (plain.Bare bare.unreachable))

-- so many words from one on, with their texts
unfoldable pub rows : ℕ → ℕ → List (List ℕ × Word)
rows n zero = []
rows n (suc count) = (text_of n, word_at n) ∷ rows (suc n) count

-- where the words of a bucket begin
unfoldable pub first_word_of : ℕ → ℕ
first_word_of bucket = slice_index_or FIRSTS bucket 0

-- the words of a bucket, with their texts
unfoldable pub words_of : ℕ → List (List ℕ × Word)
words_of bucket = rows (first_word_of bucket) (first_word_of (bucket + 1) - first_word_of bucket)

-- the byte of a text at an index, or 0
abbrev pub letter : List ℕ → ℕ → ℕ
letter name index = slice_index_or name index 0

-- the byte that is so many before the end of a text, or 0
abbrev pub letter_before : List ℕ → ℕ → ℕ
letter_before name count = letter name ((length name + (2 ^ 64 - count)) % 2 ^ 64)

-- the bucket of a text
unfoldable pub hash_of : List ℕ → ℕ
hash_of name = (length name % 1024 * 406 + letter name 1 * 907 + letter_before name 1 * 362 + letter_before name 3 * 360) % 1024
