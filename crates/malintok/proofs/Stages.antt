-- Checking past the tests for short tables and long texts: the text's answer, then the proof's, and the tables that they leave.
use mathlib.Core.Path.{◌≡◌, refl, sym, ap, ◌∙◌, subst}
use mathlib.Core.Bool.{Bool, true, false}
use mathlib.Core.List.{List, []}
use Prim.Native.Nat.{ℕ, ◌*◌, ◌≤◌, ◌<◌}
use native.Mathlib.Omega.{arith}
use lib.ListN.{length, get_or, length-map}
use Rattle.std.specs.Prelude.{Ok, Err}
use Rattle.rules.specs.declared.Reply.{Reply}
use Rattle.rules.specs.declared.refusals.Refused.{Refused}
use Rattle.rules.specs.definitions.Layout.{prefix_words, clause_words, line_words, map_words, set_words}
use Rattle.rules.specs.definitions.Formula.{Formula, no_literal}
use Rattle.theory.specs.laws.Formula.{proper_length, Worded}
use Rattle.rules.specs.definitions.Faults.{Found}
use Rattle.rules.specs.definitions.Faults.Found.{passes, fails}
use Rattle.rules.specs.definitions.File.{merge_proof, head_fault}
use Rattle.rules.specs.definitions.Reading.{Reading, read}
use Rattle.rules.specs.definitions.Reading.Reading.{unread, formula}
use Rattle.theory.specs.laws.Reading.{read_proper}
use Rattle.rules.specs.definitions.Lines.{Row}
use Rattle.rules.specs.definitions.Checking.{Passed, last_empty, Checked, base, lines_of, when_passed, proof_checked, checked_by, checked}
use Rattle.rules.specs.definitions.Checking.Passed.{passed, stopped}
use Rattle.rules.specs.definitions.Checking.Checked.{rejected, accepted}
use Rattle.rules.specs.definitions.Tables.{bound_word, clause_row, holding, prefix_table, clause_table, prefix_after, clauses_after}
use Rattle.theory.specs.laws.Tables.{rows_length, holding_same, holding_over, holding_twice, holding_again}
use Rattle.theory.specs.laws.Lines.{numbered_in}
use Rattle.sets.specs.Values.{length_clause_row}
use Rattle.rules.specs.definitions.Services.{Lent, success, read_answer, check_answer}
use Rattle.rules.specs.statements.Proper.{Proper}
use Rattle.formula.specs.declared.reading.Counts.{Counts}
use Rattle.formula.specs.declared.tables.FormulaTables.{FormulaTables}
use Rattle.formula.specs.Readings.{Told, Left}
use Rattle.checker.specs.Tables.{Held, cleared}
use Rattle.checker.specs.Runs.{Blank}
use Rattle.checker.specs.Checks.{InTables, FilledTables, Checks}
use Rattle.malintok.specs.Calls.{counts_of, counted, refused, Answers, ProofIn}

none_fits : (n : ℕ) → length {A = ℕ} [] ≤ n
none_fits n = omega arith

-- ---- the proof's verdict
-- an accepted formula is the one given
abbrev Same : Formula → Checked → Type 0
Same F (accepted G rows) = G ≡ F
Same F (rejected n at v) = Unit {0}

same_last : (F : Formula) (rows : List Row) (b : Bool) → Same F (elim b [ true ↦ accepted F rows | false ↦ rejected 32 (length rows) 0 ])
same_last F rows true = refl
same_last F rows false = tt

same_passed : (F : Formula) (p : Passed) → Same F (when_passed base F p)
same_passed F (passed rows) = same_last F rows (last_empty rows)
same_passed F (stopped n i v) = tt

same_checked : (F : Formula) (proof : List ℕ) → Same F (proof_checked base F proof)
same_checked F proof = by (head_fault merge_proof F proof)
  where
    by : (f : Found) → Same F (elim f [ passes ↦ when_passed base F (lines_of base F proof) | fails n v ↦ rejected n 0 v ])
    by passes = same_passed F (lines_of base F proof)
    by (fails n v) = tt

-- the five tables as one value
abbrev pub five : List ℕ → List ℕ → Held → Lent
five p c T = record { prefix = p; clauses = c; lines = T.lines; nodes = T.nodes; roots = T.roots }

module _ (F : Formula) (proof : List ℕ) (t : FormulaTables) (lent T : Held) (counts : Counts) (R : InTables F t.prefix.now counts.clauses t.clauses.now) (said : counts ≡ counts_of F) where
  -- accepted: the tables hold the rows
  pub proof_accepted : (n : ℕ) → Checks (proof_checked base F proof) lent T (Ok n) → (r : Reply) → r ≡ counted counts n
      → Answers (check_answer (proof_checked base F proof)) (five t.prefix.now t.clauses.now lent) r (five t.prefix.now t.clauses.now T)
  proof_accepted n J r g = by (proof_checked base F proof) (same_checked F proof) J
    where
      by : (C : Checked) → Same F C → Checks C lent T (Ok n) → Answers (check_answer C) (five t.prefix.now t.clauses.now lent) r (five t.prefix.now t.clauses.now T)
      by (accepted G rows) s j = record {
        reply = g ∙ ap (λ (c : Counts). counted c n) said ∙ ap (λ (i : ℕ). success F i) j.0 ∙ ap (λ (H : Formula). success H (length rows)) (sym s);
        prefix_left = R.in_prefix ∙ ap (λ (H : Formula). holding prefix_words (prefix_table H rows) t.prefix.now) (sym s);
        clauses_left = R.in_clauses ∙ ap (λ (H : Formula). holding clause_words (clause_table H rows) t.clauses.now) (sym s);
        lines_left = ap (λ (H : Held). H.lines) j.1;
        nodes_left = ap (λ (H : Held). H.nodes) j.1;
        roots_left = ap (λ (H : Held). H.roots) j.1;
      }
      by (rejected m at u) s j = absurd j

  -- refused: all five tables are cleared
  pub proof_rejected : (k : Refused) → Checks (proof_checked base F proof) lent T (Err k) → (r : Reply) (p c : List ℕ) (T' : Held) → r ≡ refused k
      → p ≡ holding prefix_words [] t.prefix.now → c ≡ holding clause_words [] t.clauses.now → T' ≡ cleared T
      → Answers (check_answer (proof_checked base F proof)) (five t.prefix.now t.clauses.now lent) r (five p c T')
  proof_rejected k J r p c T' g hp hc e = by (proof_checked base F proof) J
    where
      by : (C : Checked) → Checks C lent T (Err k) → Answers (check_answer C) (five t.prefix.now t.clauses.now lent) r (five p c T')
      by (accepted G rows) j = absurd j
      by (rejected m i w) j = record {
        reply = g ∙ rw (j.0, j.1, j.2);
        prefix_left = hp;
        clauses_left = hc;
        lines_left = ap (λ (H : Held). H.lines) e ∙ holding_same line_words [] T.lines lent.lines j.3.lines_past;
        nodes_left = ap (λ (H : Held). H.nodes) e ∙ holding_same map_words [] T.nodes lent.nodes j.3.nodes_past;
        roots_left = ap (λ (H : Held). H.roots) e ∙ holding_same map_words [] T.roots lent.roots j.3.roots_past;
      }

-- ---- the text
-- a clause of the matrix has its words
worded : (F : Formula) → Proper F → (i : ℕ) → i < length F.matrix → Worded (get_or F.matrix i no_literal)
worded F P i h =
    let m = numbered_in F.matrix i no_literal h in
    record { plain = P.plain_words (get_or F.matrix i no_literal) m; negated = P.negated_words (get_or F.matrix i no_literal) m }

-- the prefix table and the clause table have room
prefix_fits : (F : Formula) → Proper F → length (prefix_table F []) ≤ prefix_words
unfolding prefix_words
prefix_fits F P = omega (arith, length-map F.prefix bound_word, proper_length F P, P.variables)

module _ (text proof prefix clauses p c : List ℕ) (lent T : Held) (e : T ≡ cleared lent) where
  -- a refused text
  pub text_refused : (k : Refused) → Left text prefix clauses p c (Err k) → (r : Reply) → r ≡ refused k → Answers (check_answer (checked text proof)) (five prefix clauses lent) r (five p c T)
  unfolding checked_by
  text_refused k L r g = by (read text) L.told L.prefix_left L.clauses_left
    where
      by : (R : Reading) → Told R (Err k) → p ≡ prefix_after (read_answer R).leaves prefix → c ≡ clauses_after (read_answer R).leaves clauses
          → Answers (check_answer (elim R [ unread k at ↦ rejected k at 0 | formula F ↦ proof_checked base F proof ])) (five prefix clauses lent) r (five p c T)
      by (unread m at) t hp hc = record {
        reply = g ∙ rw (t.0, t.1, t.2);
        prefix_left = hp;
        clauses_left = hc;
        lines_left = ap (λ (H : Held). H.lines) e;
        nodes_left = ap (λ (H : Held). H.nodes) e;
        roots_left = ap (λ (H : Held). H.roots) e;
      }
      by (formula F) t hp hc = absurd t

module _ (text prefix clauses p c : List ℕ) (n : Counts) (L : Left text prefix clauses p c (Ok n)) where
  -- a text that is read: its formula stands in its tables
  pub text_read : (F : Formula) × (read text ≡ formula F) × (n ≡ counts_of F)
  text_read = by (read text) refl L.told
    where
      by : (R : Reading) → read text ≡ R → Told R (Ok n) → (F : Formula) × (read text ≡ formula F) × (n ≡ counts_of F)
      by (unread k at) d t = absurd t
      by (formula F) d t = (F, d, t)

  module _ (F : Formula) (d : read text ≡ formula F) where
    proper : Proper F
    proper = read_proper text F d

    in_prefix : p ≡ holding prefix_words (prefix_table F []) prefix
    in_prefix = L.prefix_left ∙ ap (λ (R : Reading). prefix_after (read_answer R).leaves prefix) d

    in_clauses : c ≡ holding clause_words (clause_table F []) clauses
    in_clauses = L.clauses_left ∙ ap (λ (R : Reading). clauses_after (read_answer R).leaves clauses) d

    clauses_fit : length (clause_table F []) ≤ clause_words
    unfolding clause_words set_words
    clauses_fit = omega (arith, rows_length (2 * set_words) clause_row no_literal F.matrix (λ i h. length_clause_row _ (worded F proper i h)), proper.clauses)

    -- the proof's answer is the text's with the proof
    text_and_proof : (proof : List ℕ) (lent T : Held) → T ≡ cleared lent → (r : Reply) (T' : Lent) → Answers (check_answer (proof_checked base F proof)) (five p c T) r T' → Answers (check_answer (checked text proof)) (five prefix clauses lent) r T'
    unfolding checked_by
    text_and_proof proof lent T e r T' A = subst (λ (C : Checked). Answers (check_answer C) (five prefix clauses lent) r T') same (by (proof_checked base F proof) A)
      where
        same : proof_checked base F proof ≡ checked text proof
        same = sym (ap (λ (R : Reading). staged R) d)
          where
            staged : Reading → Checked
            staged R = elim R [ unread k at ↦ rejected k at 0 | formula G ↦ proof_checked base G proof ]

        by : (C : Checked) → Answers (check_answer C) (five p c T) r T' → Answers (check_answer C) (five prefix clauses lent) r T'
        by (accepted G rows) B = record {
          reply = B.reply;
          prefix_left = B.prefix_left ∙ holding_twice prefix_words _ (prefix_table F []) prefix p (prefix_fits F proper) in_prefix;
          clauses_left = B.clauses_left ∙ holding_twice clause_words _ (clause_table F []) clauses c clauses_fit in_clauses;
          lines_left = B.lines_left ∙ holding_twice line_words _ [] lent.lines T.lines (none_fits line_words) (ap (λ (H : Held). H.lines) e);
          nodes_left = B.nodes_left ∙ holding_twice map_words _ [] lent.nodes T.nodes (none_fits map_words) (ap (λ (H : Held). H.nodes) e);
          roots_left = B.roots_left ∙ holding_twice map_words _ [] lent.roots T.roots (none_fits map_words) (ap (λ (H : Held). H.roots) e);
        }
        by (rejected k at u) B = record {
          reply = B.reply;
          prefix_left = B.prefix_left ∙ holding_twice prefix_words [] (prefix_table F []) prefix p (prefix_fits F proper) in_prefix;
          clauses_left = B.clauses_left ∙ holding_twice clause_words [] (clause_table F []) clauses c clauses_fit in_clauses;
          lines_left = B.lines_left ∙ holding_twice line_words [] [] lent.lines T.lines (none_fits line_words) (ap (λ (H : Held). H.lines) e);
          nodes_left = B.nodes_left ∙ holding_twice map_words [] [] lent.nodes T.nodes (none_fits map_words) (ap (λ (H : Held). H.nodes) e);
          roots_left = B.roots_left ∙ holding_twice map_words [] [] lent.roots T.roots (none_fits map_words) (ap (λ (H : Held). H.roots) e);
        }

-- cleared tables hold no row
blank_again : (lent T : Held) → T ≡ cleared lent → Blank T
blank_again lent T e =
    let twice : cleared (cleared lent) ≡ cleared lent
    = rw (holding_over line_words [] lent.lines [] (none_fits line_words), holding_over map_words [] lent.nodes [] (none_fits map_words), holding_over map_words [] lent.roots [] (none_fits map_words)) refl in
    e ∙ sym (ap cleared e ∙ twice)

-- a text that is read, and its tables
module _ (text proof prefix clauses : List ℕ) (t : FormulaTables) (lent T : Held) (n : Counts) (L : Left text prefix clauses t.prefix.now t.clauses.now (Ok n)) (e : T ≡ cleared lent) where
  abbrev the_text : (F : Formula) × (read text ≡ formula F) × (n ≡ counts_of F)
  the_text = text_read text prefix clauses t.prefix.now t.clauses.now n L

  -- the formula stands in its tables
  held_text : InTables the_text.0 t.prefix.now n.clauses t.clauses.now
  held_text =
      let (F, d, s) = the_text in
      record {
        proper = read_proper text F d;
        count_is = ap (λ (q : Counts). q.clauses) s;
        in_prefix = holding_again prefix_words (prefix_table F []) prefix t.prefix.now (prefix_fits F (read_proper text F d)) (in_prefix text prefix clauses t.prefix.now t.clauses.now n L F d);
        in_clauses = holding_again clause_words (clause_table F []) clauses t.clauses.now (clauses_fit text prefix clauses t.prefix.now t.clauses.now n L F d) (in_clauses text prefix clauses t.prefix.now t.clauses.now n L F d);
      }

  -- what the proof's check asks
  pub proof_ready : Blank T × FilledTables t.prefix.now n.clauses t.clauses.now
  proof_ready = (blank_again lent T e, record { long_prefix = t.long_prefix; long_clauses = t.long_clauses; some = (the_text.0, held_text) })

  -- and what it answers, of the text with the proof
  pub proof_answers : (r : Reply) (T' : Lent) → ((F : Formula) → InTables F t.prefix.now n.clauses t.clauses.now → ProofIn F proof n (five t.prefix.now t.clauses.now T) r T') → Answers (check_answer (checked text proof)) (five prefix clauses lent) r T'
  proof_answers r T' h =
      let (F, d, s) = the_text in
      text_and_proof text prefix clauses t.prefix.now t.clauses.now n L F d proof lent T e r T' (h F held_text s)
