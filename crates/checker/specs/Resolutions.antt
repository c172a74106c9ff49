-- A resolution's tests and row as the tables give them.
use Rattle.std.specs.Prelude.{◌≡◌, Result, Ok, Err, not, ◌||◌, List, [], ◌∷◌, ℕ, ◌^◌, leb}
use Rattle.rules.specs.declared.Resolution.{Resolution}
use Rattle.rules.specs.declared.refusals.Refusal.{Refusal}
use Rattle.rules.specs.definitions.Refusals.{refusal_number, no_parent, no_pivot, lacks_plain, lacks_negated, no_universal, result_both_ways}
use Rattle.rules.specs.definitions.Sets.{has}
use Rattle.rules.specs.definitions.Sets.{Set as Variables}
use Rattle.rules.specs.definitions.Faults.{Fault, fault, Found}
use Rattle.rules.specs.definitions.Faults.Found.{passes, fails}
use Rattle.rules.specs.definitions.Formula.{resolvent, two_faced}
use Rattle.rules.specs.definitions.Formula.{Clause as Literals}
use Rattle.rules.specs.definitions.Lines.{earlier}
use Rattle.sets.specs.declared.Clause.{Clause}
use Rattle.sets.specs.Values.{clause_of}
use Rattle.checker.specs.Rows.{clause_part}

-- the parents' clauses in the line table, resolved
abbrev pub table_result : List ℕ → Resolution → Literals
table_result lines r = resolvent (clause_part lines r.a) (clause_part lines r.b) r.pivot

-- 24 to 29, from the existential variables, the number of universals and the line table
abbrev pub clause_tests : Variables → ℕ → List ℕ → ℕ → Resolution → List Fault
clause_tests es k lines i r =
    fault no_parent (not (earlier i r.a) || not (earlier i r.b))
    ∷ fault no_pivot (not (has es r.pivot))
    ∷ fault lacks_plain (not (has (clause_part lines r.a).plain r.pivot))
    ∷ fault lacks_negated (not (has (clause_part lines r.b).negated r.pivot))
    ∷ fault no_universal (leb (2 ^ k) r.merge)
    ∷ fault result_both_ways (two_faced (table_result lines r))
    ∷ []

-- the clause, or the refusal by the first test that fails, which names no variable
abbrev pub Joins : Found → Literals → Result Clause Refusal → Type 0
Joins passes c (Ok d) = clause_of d ≡ c
Joins passes c (Err k) = ⊥
Joins (fails n v) c (Ok d) = ⊥
Joins (fails n v) c (Err k) = (refusal_number k ≡ n) × (v ≡ 0)
