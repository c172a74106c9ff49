-- Reading and checking by the tests that come before any byte is read.
use mathlib.Core.Path.{◌≡◌, refl, sym, ap, ◌∙◌, subst}
use mathlib.Core.Bool.{Bool, true, false, ◌||◌}
use mathlib.Core.List.{List}
use mathlib.Core.Logic.{◌⊎◌, inl, inr}
use Prim.Native.Nat.{ℕ, ◌≤◌, ◌<◌}
use lib.Dec.{ltb}
use lib.ListN.{length}
use borrow.Author.Tests.{lt-ltb, le-ltb}
use Rattle.std.specs.Prelude.{Result}
use Rattle.rules.specs.declared.Reply.{Reply}
use Rattle.rules.specs.declared.refusals.Refused.{Refused}
use Rattle.rules.specs.definitions.Limits.{text_most}
use Rattle.rules.specs.definitions.Layout.{prefix_words, clause_words, line_words, map_words}
use Rattle.rules.specs.definitions.Refusals.{long_text, short_table}
use Rattle.rules.specs.definitions.Reading.{read}
use Rattle.rules.specs.definitions.Tables.{prefix_after, clauses_after, lines_after, nodes_after, roots_after}
use Rattle.rules.specs.definitions.Checking.{checked}
use Rattle.rules.specs.definitions.Services.{Lent, Answer, refusal, refused_early, read_answer, check_answer, short, short_tables, reading, checking}
use Rattle.formula.specs.declared.reading.Counts.{Counts}
use Rattle.formula.specs.Readings.{reply_of, told_reply, Left}
use Rattle.malintok.specs.Calls.{ReadCall, Answers, CheckCall, CheckedIn}

-- an answer, from whether a table is short and whether the text is long
abbrev staged : Bool → Bool → Answer → Answer
staged short long a = elim short [ true ↦ refused_early short_table | false ↦ elim long [ true ↦ refused_early long_text | false ↦ a ] ]

staged_short : (s l : Bool) (a : Answer) → s ≡ true → staged s l a ≡ refused_early short_table
staged_short s l a e = ap (λ (b : Bool). staged b l a) e

staged_long : (s l : Bool) (a : Answer) → s ≡ false → l ≡ true → staged s l a ≡ refused_early long_text
staged_long s l a e f = ap (λ (b : Bool). staged b l a) e ∙ ap (λ (b : Bool). staged false b a) f

staged_on : (s l : Bool) (a : Answer) → s ≡ false → l ≡ false → staged s l a ≡ a
staged_on s l a e f = ap (λ (b : Bool). staged b l a) e ∙ ap (λ (b : Bool). staged false b a) f

module _ (text prefix clauses : List ℕ) where
  reading_staged : reading text prefix clauses ≡ staged (short prefix_words prefix || short clause_words clauses) (ltb text_most (length text)) (read_answer (read text))
  unfolding reading
  reading_staged = refl

  -- a call that leaves the tables as they came
  left_alone : (r : Reply) (n : ℕ) → reading text prefix clauses ≡ refused_early n → r ≡ refusal n 0 0 → ReadCall text prefix clauses r prefix clauses
  left_alone r n e f = record {
    reply = f ∙ sym (ap (λ (a : Answer). a.reply) e);
    prefix_left = sym (ap (λ (a : Answer). prefix_after a.leaves prefix) e);
    clauses_left = sym (ap (λ (a : Answer). clauses_after a.leaves clauses) e);
  }

  pub read_short : (r : Reply) → (length prefix < 64) ⊎ ((64 ≤ length prefix) × (length clauses < 512)) → r ≡ refusal short_table 0 0 → ReadCall text prefix clauses r prefix clauses
  unfolding prefix_words clause_words
  read_short r h f = left_alone r short_table (reading_staged ∙ staged_short _ (ltb text_most (length text)) (read_answer (read text)) (by h)) f
    where
      by : (length prefix < 64) ⊎ ((64 ≤ length prefix) × (length clauses < 512)) → (short prefix_words prefix || short clause_words clauses) ≡ true
      by (inl h) = rw (lt-ltb (length prefix) 64 h) refl
      by (inr h) = rw (le-ltb (length prefix) 64 h.0, lt-ltb (length clauses) 512 h.1) refl

  enough : 64 ≤ length prefix → 512 ≤ length clauses → (short prefix_words prefix || short clause_words clauses) ≡ false
  unfolding prefix_words clause_words
  enough h k = rw (le-ltb (length prefix) 64 h, le-ltb (length clauses) 512 k) refl

  pub read_long : (r : Reply) → 64 ≤ length prefix → 512 ≤ length clauses → 65536 < length text → r ≡ refusal long_text 0 0 → ReadCall text prefix clauses r prefix clauses
  read_long r h k l f =
      left_alone r long_text (reading_staged ∙ staged_long _ (ltb text_most (length text)) (read_answer (read text)) (enough h k) (lt-ltb text_most (length text) l)) f

  -- the text is read
  pub read_whole : (r : Reply) (o : Result Counts Refused) (p c : List ℕ) → 64 ≤ length prefix → 512 ≤ length clauses → length text ≤ 65536 → r ≡ reply_of o
      → Left text prefix clauses p c o → (p' c' : List ℕ) → p' ≡ p → c' ≡ c → ReadCall text prefix clauses r p' c'
  read_whole r o p c h k l f L p' c' hp hc =
      let e : reading text prefix clauses ≡ read_answer (read text)
      = reading_staged ∙ staged_on _ (ltb text_most (length text)) (read_answer (read text)) (enough h k) (le-ltb text_most (length text) l) in
      record {
        reply = f ∙ told_reply (read text) o L.told ∙ sym (ap (λ (a : Answer). a.reply) e);
        prefix_left = hp ∙ L.prefix_left ∙ sym (ap (λ (a : Answer). prefix_after a.leaves prefix) e);
        clauses_left = hc ∙ L.clauses_left ∙ sym (ap (λ (a : Answer). clauses_after a.leaves clauses) e);
      }

-- ---- checking
module _ (text proof : List ℕ) (T : Lent) where
  checking_staged : checking text proof T ≡ staged (short_tables T) (ltb text_most (length text)) (check_answer (checked text proof))
  unfolding checking
  checking_staged = refl

  left_all : (r : Reply) (k : ℕ) → checking text proof T ≡ refused_early k → r ≡ refusal k 0 0
      → CheckCall text proof T r T.prefix T.clauses T.lines T.nodes T.roots
  left_all r k e f = record {
    reply = f ∙ sym (ap (λ (a : Answer). a.reply) e);
    prefix_left = sym (ap (λ (a : Answer). prefix_after a.leaves T.prefix) e);
    clauses_left = sym (ap (λ (a : Answer). clauses_after a.leaves T.clauses) e);
    lines_left = sym (ap (λ (a : Answer). lines_after a.leaves T.lines) e);
    nodes_left = sym (ap (λ (a : Answer). nodes_after a.leaves T.nodes) e);
    roots_left = sym (ap (λ (a : Answer). roots_after a.leaves T.roots) e);
  }

  -- a table is short
  abbrev SomeShort : Type 0
  SomeShort =
      (length T.prefix < 64)
      ⊎ (((64 ≤ length T.prefix) × (length T.clauses < 512))
      ⊎ (((64 ≤ length T.prefix) × (512 ≤ length T.clauses) × (length T.lines < 2048))
      ⊎ (((64 ≤ length T.prefix) × (512 ≤ length T.clauses) × (2048 ≤ length T.lines) × (length T.nodes < 16384))
      ⊎ ((64 ≤ length T.prefix) × (512 ≤ length T.clauses) × (2048 ≤ length T.lines) × (16384 ≤ length T.nodes) × (length T.roots < 16384)))))

  some_short : SomeShort → short_tables T ≡ true
  unfolding prefix_words clause_words line_words map_words
  some_short (inl h) = rw (lt-ltb (length T.prefix) 64 h) refl
  some_short (inr (inl h)) = rw (le-ltb (length T.prefix) 64 h.0, lt-ltb (length T.clauses) 512 h.1) refl
  some_short (inr (inr (inl h))) = rw (le-ltb (length T.prefix) 64 h.0, le-ltb (length T.clauses) 512 h.1, lt-ltb (length T.lines) 2048 h.2) refl
  some_short (inr (inr (inr (inl h)))) =
      rw (le-ltb (length T.prefix) 64 h.0, le-ltb (length T.clauses) 512 h.1, le-ltb (length T.lines) 2048 h.2, lt-ltb (length T.nodes) 16384 h.3) refl
  some_short (inr (inr (inr (inr h)))) =
      rw (le-ltb (length T.prefix) 64 h.0, le-ltb (length T.clauses) 512 h.1, le-ltb (length T.lines) 2048 h.2, le-ltb (length T.nodes) 16384 h.3, lt-ltb (length T.roots) 16384 h.4) refl

  pub check_short : (r : Reply) → SomeShort → r ≡ refusal short_table 0 0 → CheckCall text proof T r T.prefix T.clauses T.lines T.nodes T.roots
  check_short r h f = left_all r short_table (checking_staged ∙ staged_short (short_tables T) (ltb text_most (length text)) (check_answer (checked text proof)) (some_short h)) f

  -- each is long enough
  module _ (p : 64 ≤ length T.prefix) (c : 512 ≤ length T.clauses) (l : 2048 ≤ length T.lines) (n : 16384 ≤ length T.nodes) (t : 16384 ≤ length T.roots) where
    none_short : short_tables T ≡ false
    unfolding prefix_words clause_words line_words map_words
    none_short = rw (le-ltb (length T.prefix) 64 p, le-ltb (length T.clauses) 512 c, le-ltb (length T.lines) 2048 l, le-ltb (length T.nodes) 16384 n, le-ltb (length T.roots) 16384 t) refl

    -- the text is long
    pub check_long : (r : Reply) → 65536 < length text → r ≡ refusal long_text 0 0 → CheckCall text proof T r T.prefix T.clauses T.lines T.nodes T.roots
    check_long r h f =
        left_all r long_text (checking_staged ∙ staged_long (short_tables T) (ltb text_most (length text)) (check_answer (checked text proof)) none_short (lt-ltb text_most (length text) h)) f

    -- the text is checked with the proof, and the lent tables are as the structs that hold them say
    pub check_whole : (r : Reply) (T' : Lent) (p' c' l' n' t' : List ℕ) → length text ≤ 65536 → CheckedIn text proof T r T'
        → p' ≡ T'.prefix → c' ≡ T'.clauses → l' ≡ T'.lines → n' ≡ T'.nodes → t' ≡ T'.roots → CheckCall text proof T r p' c' l' n' t'
    check_whole r T' p' c' l' n' t' h A hp hc hl hn ht =
        rw (hp, hc, hl, hn, ht) (subst (λ (a : Answer). Answers a T r T')
        (sym (checking_staged ∙ staged_on (short_tables T) (ltb text_most (length text)) (check_answer (checked text proof)) none_short (le-ltb text_most (length text) h))) A)
