-- `states::clause_token` meets its contract.
use Rattle.std.proofs.Common.{ap, sym, ◌∙◌}
use Rattle.rules.specs.declared.refusals.Refusal.TheVariants as K
use Rattle.rules.specs.definitions.Formula.{Clause}
use Rattle.rules.specs.definitions.Reading.{moved}
use Rattle.rules.specs.definitions.Reading.Next.{go}
use Rattle.rules.specs.definitions.Reading.Place.{in_clause}
use Rattle.sets.specs.Values.{clause_of}
use Rattle.formula.specs.States.{state_of}
use Rattle.formula.proofs.StepLaws.{after_stops, clause_past, clause_unbound, clause_both, clause_more}
use Rattle.formula.proofs.states.clause_token.Goals as goal

pub returns-then-s-v : goal.returns-then-s-v
returns-then-s-v c =
    let a = c.args in
    λ bs cs st.
    after_stops a.token.at bs cs _ K.NoVariable c.at.result c.at.ensures
    (clause_past (state_of a.s bs cs) (clause_of a.c) _ _ _ c.in_ok-l.ensures c.if-v-eq0.false c.if-s-v.true)

pub returns-then-not-has : goal.returns-then-not-has
returns-then-not-has c =
    let a = c.args in
    λ bs cs st.
    after_stops a.token.at bs cs _ K.NotBound c.at-then-not-has.result c.at-then-not-has.ensures
    (clause_unbound (state_of a.s bs cs) (clause_of a.c) _ _ _ c.in_ok-l.ensures c.if-v-eq0.false c.if-s-v.false (sym (st.kept.known _) ∙ sym c.has.ensures ∙ c.if-not-has.true))

pub returns-then-has_opposite : goal.returns-then-has_opposite
returns-then-has_opposite c =
    let a = c.args in
    λ bs cs st.
    after_stops a.token.at bs cs _ K.BothWays c.at-then-has_opposite.result c.at-then-has_opposite.ensures
    (clause_both (state_of a.s bs cs) (clause_of a.c) _ _ _ c.in_ok-l.ensures c.if-v-eq0.false c.if-s-v.false (sym (st.kept.known _) ∙ sym c.has.ensures ∙ c.if-not-has.false)
    (sym c.has_opposite.ensures ∙ c.if-has_opposite.true))

pub returns : goal.returns
returns c =
    let a = c.args in
    λ bs cs st. (
      clause_more (state_of a.s bs cs) (clause_of a.c) _ _ _ c.in_ok-l.ensures c.if-v-eq0.false c.if-s-v.false (sym (st.kept.known _) ∙ sym c.has.ensures ∙ c.if-not-has.false)
          (sym c.has_opposite.ensures ∙ c.if-has_opposite.false)
          ∙ ap (λ (d : Clause). go (moved (state_of a.s bs cs) (in_clause d))) (sym c.with.ensures),
      record { kept = st.kept; room = c.requires },
    )
