-- What is printed from checking's reply and the tables that it leaves is what 01 says for the two files.
use mathlib.Core.Path.{◌≡◌, refl, sym, ◌∙◌, ap, subst}
use mathlib.Core.List.{List, ◌++◌}
use mathlib.Core.Bool.{Bool, true, false}
use Prim.Native.Nat.{ℕ, ◌≤◌}
use native.Mathlib.Omega.{arith}
use lib.Dec.{ltb}
use lib.ListN.{length, take, drop}
use borrow.Author.Tests.{eq-eqb, ne_eqb, le-ltb}
use Rattle.rules.specs.declared.Reply.{Reply}
use Rattle.rules.specs.definitions.Limits.{text_most}
use Rattle.rules.specs.definitions.Layout.{prefix_words, clause_words, line_words, map_words}
use Rattle.rules.specs.definitions.Checking.{Checked, checked}
use Rattle.rules.specs.definitions.Checking.Checked.{rejected, accepted}
use Rattle.rules.specs.definitions.Tables.{prefix_after, nodes_after, roots_after}
use Rattle.rules.specs.definitions.Services.{Lent, Answer, refused_early, check_answer, short_tables, checking}
use Rattle.theory.specs.laws.Listed.{check_listed}
use Rattle.rules.specs.definitions.Report.{refused_line, accepted_text, report, printed}
use Rattle.malintok.specs.Calls.{CheckCall}
use Rattle.report.specs.declared.text.Out.{Out}
use Rattle.report.specs.Written.{Appended, accepted_line}
use Rattle.report.specs.Tabled.{reply_text, accepted_tables, Printable}
use Rattle.report.specs.Calls.{Room, PrintCall}
use Rattle.report.proofs.Accepted.{accepted_maps, accepted_printable}

-- a reply 0, and another
pub reply_accepted : (r : Reply) (prefix nodes roots : List ℕ) → r.number ≡ 0 → reply_text r prefix nodes roots ≡ accepted_tables prefix nodes roots r.lines
unfolding reply_text
reply_accepted r prefix nodes roots e = rw (eq-eqb r.number 0 e, reply_text)

pub reply_refused : (r : Reply) (prefix nodes roots : List ℕ) → (r.number ≡ 0 → ⊥) → reply_text r prefix nodes roots ≡ refused_line r.number r.place r.variable
unfolding reply_text
reply_refused r prefix nodes roots e = rw (ne_eqb r.number 0 e, reply_text)

-- an answer with the tables that it leaves: they can be printed, and this is printed
abbrev Prints : List ℕ → List ℕ → List ℕ → List ℕ → List ℕ → List ℕ → Answer → List ℕ → Type 0
Prints lp ln lr prefix nodes roots a t =
    prefix ≡ prefix_after a.leaves lp → nodes ≡ nodes_after a.leaves ln → roots ≡ roots_after a.leaves lr
    → (a.reply.number ≡ 0 → Printable prefix nodes roots a.reply.lines) × (reply_text a.reply prefix nodes roots ≡ t)

module _ (text proof lp ln lr prefix nodes roots : List ℕ) (prefix_long : 64 ≤ length lp) (nodes_long : 16384 ≤ length ln) (roots_long : 16384 ≤ length lr) where
  early : Prints lp ln lr prefix nodes roots (refused_early 1) (refused_line 1 0 0)
  early p n r = ((λ e. absurd (omega arith)), reply_refused _ prefix nodes roots (λ e. omega arith))

  by_checked : (c : Checked) → checked text proof ≡ c → Prints lp ln lr prefix nodes roots (check_answer c) (report c)
  unfolding accepted_text
  by_checked (rejected m at v) e p n r =
      let h : m ≡ 0 → ⊥ = λ z. omega (arith, check_listed text proof m at v e) in
      ((λ z. absurd (h z)), reply_refused _ prefix nodes roots h)
  by_checked (accepted F rows) e p n r = (
    (λ z. accepted_printable text proof F rows e lp ln lr prefix nodes roots p n r prefix_long nodes_long roots_long),
    reply_accepted _ prefix nodes roots refl
        ∙ ap (λ (l : List ℕ). accepted_line (length rows) ++ l) (accepted_maps text proof F rows e lp ln lr prefix nodes roots p n r prefix_long nodes_long roots_long),
  )

  -- by the text's length
  answer : Bool → Answer
  answer long = elim long [ true ↦ refused_early 1 | false ↦ check_answer (checked text proof) ]

  said : Bool → List ℕ
  said long = elim long [ true ↦ refused_line 1 0 0 | false ↦ report (checked text proof) ]

  by_length : (long : Bool) → Prints lp ln lr prefix nodes roots (answer long) (said long)
  unfolding answer said
  by_length true = early
  by_length false = by_checked (checked text proof) refl

  pub printed_reply : (T : Lent) → short_tables T ≡ false → Prints lp ln lr prefix nodes roots (checking text proof T) (printed text proof)
  unfolding checking printed answer said
  printed_reply T s =
      let same : checking text proof T ≡ answer (ltb text_most (length text)) =
      ap (λ (b : Bool). elim b as (λ _. Answer) [ true ↦ refused_early 2 | false ↦ answer (ltb text_most (length text)) ]) s in
      subst (λ (a : Answer). Prints lp ln lr prefix nodes roots a (printed text proof)) (sym same) (by_length (ltb text_most (length text)))

-- ---- a call of checking, and what is printed of it
-- no table is short
not_short : {T : Lent} {out : List ℕ} → Room T out → short_tables T ≡ false
not_short {T} room =
    rw (
      le-ltb (length T.prefix) prefix_words room.prefix,
      le-ltb (length T.clauses) clause_words room.clauses,
      le-ltb (length T.lines) line_words room.lines,
      le-ltb (length T.nodes) map_words room.nodes,
      le-ltb (length T.roots) map_words room.roots,
    )

module _ (text proof : List ℕ) {T : Lent} {out : List ℕ} {r : Reply} {p c l n t : List ℕ} (room : Room T out) (call : CheckCall text proof T r p c l n t) where
  prints : ((checking text proof T).reply.number ≡ 0 → Printable p n t (checking text proof T).reply.lines) × (reply_text (checking text proof T).reply p n t ≡ printed text proof)
  unfolding prefix_words map_words
  prints =
      printed_reply text proof T.prefix T.nodes T.roots p n t (omega (arith, room.prefix)) (omega (arith, room.nodes)) (omega (arith, room.roots)) T (not_short room)
      call.prefix_left call.nodes_left call.roots_left

  -- where the reply is 0 the tables can be printed
  pub call_printable : r.number ≡ 0 → Printable p n t r.lines
  call_printable = subst (λ (q : Reply). q.number ≡ 0 → Printable p n t q.lines) (sym call.reply) prints.0

  -- what is put for the reply is what 01 says
  pub call_printed : {most : ℕ} {o o' : Out} {out' : List ℕ} → o.bytes.now ≡ out → o.at ≡ 0 → Appended most o o' (reply_text r p n t) → out' ≡ o'.bytes.now
      → PrintCall text proof T out o'.at out' p c l n t
  call_printed {o = o} {o' = o'} e z A i = rw i (record {
    said = A.written ∙ ap (λ (i : ℕ). take i o.bytes.now ++ reply_text r p n t) z ∙ ap (λ (q : Reply). reply_text q p n t) call.reply ∙ prints.1;
    past = A.rest ∙ ap (drop o'.at) e;
    within = omega (arith, o'.within);
    prefix_left = call.prefix_left;
    clauses_left = call.clauses_left;
    lines_left = call.lines_left;
    nodes_left = call.nodes_left;
    roots_left = call.roots_left;
  })
