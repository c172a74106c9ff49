-- Entries made one universal after another, in local rows of 16 words.
use mathlib.Core.Path.{◌≡◌, refl, sym, ap, ap₂, ◌∙◌}
use mathlib.Core.List.{List, map}
use Prim.Native.Nat.{ℕ, ◌+◌, ◌≤◌, ◌<◌}
use native.Mathlib.Omega.{arith}
use native.Mathlib.Numerals.{add-one}
use lib.ListN.{length, get_or, take, set, length-map, get_or-map}
use Rattle.rules.specs.definitions.Limits.{universals_most}
use Rattle.rules.specs.definitions.Maps.{node_word}
use Rattle.rules.specs.definitions.Lines.{Entry, no_entry, each}
use Rattle.theory.specs.laws.Lines.{each_at, each_length}
use Rattle.rules.specs.definitions.Tables.{padded}
use Rattle.theory.specs.laws.Tables.{padded_more, padded_all}

module _ (f : ℕ → ℕ → Entry) (us : List ℕ) (word : Entry → ℕ) (zero_word : word no_entry ≡ 0) where
  abbrev words : List ℕ
  words = map word (each f us 0)

  words_length : length words ≡ length us
  words_length = length-map (each f us 0) word ∙ each_length f us 0

  word_at : (j : ℕ) → j < length us → get_or words j 0 ≡ word (f j (get_or us j 0))
  word_at j h = ap (λ (d : ℕ). get_or words j d) (sym zero_word) ∙ get_or-map word (each f us 0) j no_entry ∙ ap word (each_at f us j no_entry h)

  -- one place more
  pub words_more : (row : List ℕ) (j v : ℕ) → j < length us → length us ≤ universals_most → row ≡ padded universals_most (take j words)
      → v ≡ word (f j (get_or us j 0)) → set row j v ≡ padded universals_most (take (j + 1) words)
  words_more row j v h l e p =
      ap₂ (λ (r : List ℕ) (n : ℕ). set r j n) e (p ∙ sym (word_at j h))
      ∙ padded_more universals_most words j (omega (arith, words_length)) (omega (arith, words_length))
      ∙ ap (λ (n : ℕ). padded universals_most (take n words)) (sym (add-one j))

  -- all places
  pub words_all : (row : List ℕ) (j : ℕ) → length us ≤ j → row ≡ padded universals_most (take j words) → row ≡ padded universals_most words
  words_all row j h e = e ∙ padded_all universals_most words j (omega (arith, words_length))

-- the words of no entry
pub no_node : node_word no_entry.node ≡ 0
unfolding node_word
no_node = refl
