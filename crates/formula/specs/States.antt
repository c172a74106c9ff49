-- What the reader's state stands for (01, Formula text): the definitions' state, with the blocks and the clauses read so far.
use Rattle.std.specs.Prelude.{◌≡◌, Bool, true, false, List, [], ◌∷◌, ◌++◌, ℕ, ◌≤◌, ◌<◌, length, Result, Ok, Err}
use Rattle.rules.specs.declared.refusals.Refusal.TheVariants as K
use Rattle.rules.specs.declared.refusals.Refused.{Refused}
use Rattle.rules.specs.definitions.Refusals.{refusal_number}
use Rattle.rules.specs.definitions.Sets.{has}
use Rattle.rules.specs.definitions.Formula as formula
use Rattle.rules.specs.definitions.Formula.{Quant, Bound, bound, universals as universals_of}
use Rattle.rules.specs.definitions.Formula.Quant.{exists, forall}
use Rattle.rules.specs.definitions.Reading as reading
use Rattle.rules.specs.definitions.Reading.Place.{at_mark, at_cnf, at_variables, at_count, at_block, in_block, at_clause, in_clause}
use Rattle.rules.specs.definitions.Reading.Next.{stop, go}
use Rattle.rules.specs.definitions.Tables.{bound_word}
use Rattle.sets.specs.Values.{set_of, clause_of}
use Rattle.formula.specs.Numbers.{refused_at}
use Rattle.formula.specs.declared.states.Place.{Place}
use Rattle.formula.specs.declared.states.Place.TheVariants as P
use Rattle.formula.specs.declared.states.State.{State}
use Rattle.formula.specs.declared.parts.Prefix.{Prefix}
use Rattle.formula.specs.declared.states.Next.{Next}
use Rattle.formula.specs.declared.states.Next.TheVariants as N

abbrev pub quant_of : Bool → Quant
quant_of true = forall
quant_of false = exists

-- a variable of a block, with the block's quantifier
abbrev pub bound_as : Bool → ℕ → Bound
bound_as universal v = record { kind = quant_of universal; var = v }

-- ---- the definitions' place and state
abbrev pub place_of : Place → reading.Place
place_of P.Mark = at_mark
place_of P.Cnf = at_cnf
place_of P.Variables = at_variables
place_of P.Count = at_count
place_of P.Block = at_block
place_of (P.InBlock u some) = in_block (quant_of u) some
place_of P.AtClause = at_clause
place_of (P.InClause c) = in_clause (clause_of c)

abbrev pub state_of : State → List Bound → List formula.Clause → reading.State
state_of s bs cs = record { place = place_of s.place; variables = s.header.variables; count = s.header.count; blocks = bs; clauses = cs }

-- ---- what holds of a state with the blocks and clauses that it stands for
-- of so many clauses, so many are done: none in the header; within a clause that one is still to come
abbrev pub Room : Place → ℕ → ℕ → Type 0
Room P.Mark done count = done ≡ 0
Room P.Cnf done count = done ≡ 0
Room P.Variables done count = done ≡ 0
Room P.Count done count = done ≡ 0
Room P.Block done count = done ≤ count
Room (P.InBlock u some) done count = done ≤ count
Room P.AtClause done count = done ≤ count
Room (P.InClause c) done count = done < count

-- what is counted of the blocks and the clauses
pub record Kept (p : Prefix) (done : ℕ) (bs : List Bound) (cs : List formula.Clause) : Type 0 where
  pub known : (v : ℕ) → has (set_of p.bound) v ≡ bound bs v
  pub placed : p.placed ≡ length bs
  pub universals : p.universals ≡ length (universals_of bs)
  pub done_all : done ≡ length cs

pub record Stands (s : State) (bs : List Bound) (cs : List formula.Clause) : Type 0 where
  pub kept : Kept s.prefix s.done bs cs
  pub room : Room s.place s.done s.header.count

-- ---- states that the code makes
abbrev pub Begun : State → Type 0
Begun s = (state_of s [] [] ≡ reading.begin) × Stands s [] []

-- a word that is to stand there, by whether it does
abbrev pub expected : State → Bool → Place → ℕ → Result Next Refused
expected s true p at = Ok (N.Go (record s { place = p }))
expected s false p at = Err (refused_at K.BadToken at)

-- ---- what one token makes: the definitions' next state n, and the code's
abbrev pub After : ℕ → List Bound → List formula.Clause → reading.Next → Result Next Refused → Type 0
After at bs cs n (Err e) = (n ≡ stop (refusal_number e.refusal)) × (e ≡ refused_at e.refusal at)
After at bs cs n (Ok (N.Go s)) = (n ≡ go (state_of s bs cs)) × Stands s bs cs
After at bs cs n (Ok (N.Bind w s)) = (q : Bound) × (n ≡ go (state_of s (bs ++ (q ∷ [])) cs)) × (w ≡ bound_word q) × Stands s (bs ++ (q ∷ [])) cs
After at bs cs n (Ok (N.Ended c s)) = (n ≡ go (state_of s bs (cs ++ (clause_of c ∷ [])))) × Stands s bs (cs ++ (clause_of c ∷ []))

-- whatever blocks and clauses s stands for, one token makes what the definitions' step makes of them
abbrev pub Takes : State → ℕ → (reading.State → reading.Next) → Result Next Refused → Type 0
Takes s at token r = (bs : List Bound) (cs : List formula.Clause) → Stands s bs cs → After at bs cs (token (state_of s bs cs)) r
