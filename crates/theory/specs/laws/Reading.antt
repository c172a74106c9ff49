-- Whatever reading gives is a proper formula: what is read so far keeps to Proper at every token.
use Rattle.std.specs.Prelude.{◌≡◌, refl, Bool, true, false, cond, not, ◌&&◌, ◌||◌, ◌⊎◌, ℕ, zero, suc, ◌+◌, ◌-◌, ◌*◌, ◌≤◌, ◌<◌, min, eqb, leb, ltb, ℤ, pos, negsuc, neg_ℤ, length}
use Rattle.std.proofs.Common.{sym, ap, ◌∙◌, true≢false, inl, inr, arith, length-append, eqb-true, ltb-true, ltb-false, leb-true, leb-false, lt-ltb, le-ltb, le-leb}
use mathlib.Core.List.Memᴰ
use mathlib.Core.List.{List, [], ◌∷◌, ◌++◌, Memᴰ}
use Rattle.std.proofs.Math.Logic.{by_cases}
use Rattle.std.proofs.Math.Decide.{dec_lt}
use Rattle.std.proofs.lemmas.Bool.{not-false, not-true}
use Rattle.rules.specs.definitions.Limits.{variables_most, universals_most, clauses_most, number_most}
use Rattle.rules.specs.definitions.Layout.{set_words}
use Rattle.rules.specs.definitions.Refusals.{bad_token, header_limit, no_variable, bound_twice, too_many_universals, not_bound, both_ways, clause_count}
use Rattle.rules.specs.definitions.Faults.{Fault, fault, Found, first_of}
use Rattle.rules.specs.definitions.Faults.Found.{passes, fails}
use Rattle.rules.specs.definitions.Sets.{has}
use Rattle.theory.specs.laws.Sets.{and_left, and_right, or_cases, has_none}
use Rattle.rules.specs.definitions.Formula.{Quant, Bound, Clause, Formula, Literal, universal?, bound, universals, completed, no_literal, with_literal, has_opposite}
use Rattle.rules.specs.definitions.Formula.Quant.{exists, forall}
use Rattle.theory.specs.laws.Formula.{Worded, no_literal_words, with_literal_words, has_literal_plain, has_literal_negated, fits, bound_snoc, universals_snoc_exists, universals_snoc_forall, length_snoc, var_at_snoc, var_at_last, distinct_snoc}
use Rattle.theory.specs.laws.Lines.{passes_cons}
use Rattle.rules.specs.statements.Proper.{var_at, Proper}
use Rattle.rules.specs.definitions.Text.{Token, uncommented, spelled, Number, digit, grown, sized, counting, number_of}
use Rattle.rules.specs.definitions.Text.Number.{number, no_number}
use Rattle.rules.specs.definitions.Reading.{Place, State, begin, moved, Next, unless, word_p, word_cnf, word_a, word_e, limited, with_variables, with_count, bind, full, block_token, clause_ended, literal_token, clause_token, complete, begin_clause, block_place, step_at, step, formula_of, Reading, between_clauses, end_at, read_from, tokens_of, read}
use Rattle.rules.specs.definitions.Reading.Place.{at_mark, at_cnf, at_variables, at_count, at_block, in_block, at_clause, in_clause}
use Rattle.rules.specs.definitions.Reading.Next.{stop, go}
use Rattle.rules.specs.definitions.Reading.Reading.{unread, formula}

-- ---- one clause: its variables are bound, none stands in it both ways, and its sets have their words
record Sound (Q : List Bound) (c : Clause) : Type 0 where
  closed : (v : ℕ) → (has c.plain v ≡ true) ⊎ (has c.negated v ≡ true) → bound Q v ≡ true
  one_way : (v : ℕ) → has c.plain v ≡ true → has c.negated v ≡ true → ⊥
  words : Worded c

sound_none : (Q : List Bound) → Sound Q no_literal
sound_none Q = record {
  closed = λ v h. elim h [ inl e ↦ absurd (true≢false (sym e ∙ has_none set_words v)) | inr e ↦ absurd (true≢false (sym e ∙ has_none set_words v)) ];
  one_way = λ v p q. true≢false (sym p ∙ has_none set_words v);
  words = no_literal_words;
}

opposite_plain : (c : Clause) (l : Literal) → l.negated ≡ false → has_opposite c l ≡ has c.negated l.variable
unfolding has_opposite
opposite_plain c l e = rw (e, has_opposite)

opposite_negated : (c : Clause) (l : Literal) → l.negated ≡ true → has_opposite c l ≡ has c.plain l.variable
unfolding has_opposite
opposite_negated c l e = rw (e, has_opposite)

-- one literal more, of a bound variable that does not stand in the clause the other way
sound_literal : (Q : List Bound) (c : Clause) (l : Literal) → Sound Q c → 1 ≤ l.variable → l.variable ≤ variables_most → bound Q l.variable ≡ true
    → has_opposite c l ≡ false → Sound Q (with_literal c l)
sound_literal Q c l s lo hi b o = record { closed = close; one_way = λ v p q. apart v (plain v p) (negative v q); words = with_literal_words c l s.words }
  where
    x : ℕ
    x = l.variable

    plain : (v : ℕ) → has (with_literal c l).plain v ≡ true → ((not l.negated && eqb v x) ≡ true) ⊎ (has c.plain v ≡ true)
    plain v p = or_cases (not l.negated && eqb v x) (has c.plain v) (sym (has_literal_plain c l v s.words lo (fits x hi)) ∙ p)

    negative : (v : ℕ) → has (with_literal c l).negated v ≡ true → ((l.negated && eqb v x) ≡ true) ⊎ (has c.negated v ≡ true)
    negative v p = or_cases (l.negated && eqb v x) (has c.negated v) (sym (has_literal_negated c l v s.words lo (fits x hi)) ∙ p)

    here : (v : ℕ) (t : Bool) → (t && eqb v x) ≡ true → bound Q v ≡ true
    here v t e = ap (bound Q) (eqb-true v x (and_right t (eqb v x) e)) ∙ b

    from_plain : (v : ℕ) → ((not l.negated && eqb v x) ≡ true) ⊎ (has c.plain v ≡ true) → bound Q v ≡ true
    from_plain v (inl e) = here v (not l.negated) e
    from_plain v (inr e) = s.closed v (inl e)

    from_negated : (v : ℕ) → ((l.negated && eqb v x) ≡ true) ⊎ (has c.negated v ≡ true) → bound Q v ≡ true
    from_negated v (inl e) = here v l.negated e
    from_negated v (inr e) = s.closed v (inr e)

    close : (v : ℕ) → (has (with_literal c l).plain v ≡ true) ⊎ (has (with_literal c l).negated v ≡ true) → bound Q v ≡ true
    close v (inl p) = from_plain v (plain v p)
    close v (inr p) = from_negated v (negative v p)

    sign : not l.negated ≡ true → l.negated ≡ false
    sign e = not-true l.negated e

    apart : (v : ℕ) → ((not l.negated && eqb v x) ≡ true) ⊎ (has c.plain v ≡ true) → ((l.negated && eqb v x) ≡ true) ⊎ (has c.negated v ≡ true) → ⊥
    apart v (inl p) (inl q) =
        true≢false (sym (and_left l.negated (eqb v x) q) ∙ sign (and_left (not l.negated) (eqb v x) p))
    apart v (inl p) (inr q) =
        true≢false (sym q ∙ ap (has c.negated) (eqb-true v x (and_right (not l.negated) (eqb v x) p)) ∙ sym (opposite_plain c l (sign (and_left (not l.negated) (eqb v x) p))) ∙ o)
    apart v (inr p) (inl q) =
        true≢false (sym p ∙ ap (has c.plain) (eqb-true v x (and_right l.negated (eqb v x) q)) ∙ sym (opposite_negated c l (and_left l.negated (eqb v x) q)) ∙ o)
    apart v (inr p) (inr q) = s.one_way v p q

-- ---- what is read so far
abbrev so_far : State → Formula
so_far st = record { variables = st.variables; prefix = st.blocks; matrix = st.clauses }

-- before the blocks nothing is bound and no clause is read
record Headed (st : State) : Type 0 where
  blocks : st.blocks ≡ []
  clauses : st.clauses ≡ []

record Inside (st : State) (c : Clause) : Type 0 where
  sound : Sound st.blocks c
  more : length st.clauses < st.count

abbrev AtPlace : Place → State → Type 0
AtPlace at_mark st = Headed st
AtPlace at_cnf st = Headed st
AtPlace at_variables st = Headed st
AtPlace at_count st = Headed st
AtPlace at_block st = Unit {0}
AtPlace (in_block q some) st = Unit {0}
AtPlace at_clause st = Unit {0}
AtPlace (in_clause c) st = Inside st c

record Kept (st : State) : Type 0 where
  proper : Proper (so_far st)
  counted : length st.clauses ≤ st.count
  count : st.count ≤ clauses_most

-- after a token: it is refused, or what is read then keeps to it
abbrev After : Next → Type 0
After (stop n) = Unit {0}
After (go st) = Kept st × AtPlace st.place st

after_cond : (t : Bool) (n : ℕ) (st : State) → Kept st → AtPlace st.place st → After (cond t (go st) (stop n))
after_cond true n st k p = (k, p)
after_cond false n st k p = tt

after_unless : (f : Found) (st : State) → (f ≡ passes → Kept st × AtPlace st.place st) → After (unless f st)
after_unless passes st h = h refl
after_unless (fails n v) st h = tt

-- ---- the header
proper_none : (n : ℕ) → n ≤ variables_most → Proper (record { variables = n; prefix = []; matrix = [] })
unfolding universals
proper_none n h = record {
  variables = h;
  in_range = λ i l. absurd (omega arith);
  distinct = λ i j l m e. absurd (omega arith);
  universals = omega arith;
  clauses = omega arith;
  closed = λ c m. absurd (Memᴰ.not-nil m);
  one_way = λ c m. absurd (Memᴰ.not-nil m);
  plain_words = λ c m. absurd (Memᴰ.not-nil m);
  negated_words = λ c m. absurd (Memᴰ.not-nil m);
}

kept_move : (st : State) (p : Place) → Kept st → Kept (moved st p)
kept_move st p k = record { proper = k.proper; counted = k.counted; count = k.count }

headed_move : (st : State) (p : Place) → Headed st → Headed (moved st p)
headed_move st p h = record { blocks = h.blocks; clauses = h.clauses }

kept_variables : (st : State) (n : ℕ) → Kept st → Headed st → n ≤ variables_most → Kept (with_variables st n)
kept_variables st n k h l = record { proper = rw (h.blocks, h.clauses) (proper_none n l); counted = k.counted; count = k.count }

kept_count : (st : State) (n : ℕ) → Kept st → Headed st → n ≤ clauses_most → Kept (with_count st n)
kept_count st n k h l = record { proper = k.proper; counted = rw h.clauses (omega arith); count = l }

after_limited : (most : ℕ) (m : Number) (st : ℕ → State) → ((n : ℕ) → n ≤ most → Kept (st n) × AtPlace (st n).place (st n)) → After (limited most m st)
after_limited most no_number st h = tt
after_limited most (number (negsuc n)) st h = tt
after_limited most (number (pos n)) st h =
    after_unless (first_of (fault header_limit (ltb most n) ∷ [])) (st n)
    (λ e. h n (ltb-false most n ((passes_cons (fault header_limit (ltb most n)) []).0 e).0))

-- ---- clauses of a proper formula
sound_member : (F : Formula) → Proper F → (c : Clause) → Memᴰ c F.matrix → Sound F.prefix c
sound_member F p c m =
    record { closed = p.closed c m; one_way = p.one_way c m; words = record { plain = p.plain_words c m; negated = p.negated_words c m } }

-- one clause more
sound_more : (F : Formula) → Proper F → (c : Clause) → Sound F.prefix c → (d : Clause) → Memᴰ d (F.matrix ++ (c ∷ [])) → Sound F.prefix d
sound_more F p c s d m = split (Memᴰ.append_cases F.matrix m)
  where
    split : Memᴰ d F.matrix ⊎ Memᴰ d (c ∷ []) → Sound F.prefix d
    split (inl a) = sound_member F p d a
    split (inr a) = rw (Memᴰ.eq_of_singleton a) s

length_more : (cs : List Clause) (c : Clause) → length (cs ++ (c ∷ [])) ≡ suc (length cs)
length_more cs c = length-append cs (c ∷ []) ∙ omega arith

kept_ended : (st : State) (c : Clause) → Kept st → Inside st c → Kept (clause_ended st c)
kept_ended st c k i = record {
  proper = record {
    variables = k.proper.variables;
    in_range = k.proper.in_range;
    distinct = k.proper.distinct;
    universals = k.proper.universals;
    clauses = omega (arith, length_more st.clauses c, i.more, k.count);
    closed = λ d m. (each d m).closed;
    one_way = λ d m. (each d m).one_way;
    plain_words = λ d m. (each d m).words.plain;
    negated_words = λ d m. (each d m).words.negated;
  };
  counted = omega (arith, length_more st.clauses c, i.more);
  count = k.count;
}
  where
    each : (d : Clause) → Memᴰ d (st.clauses ++ (c ∷ [])) → Sound st.blocks d
    each = sound_more (so_far st) k.proper c i.sound

-- ---- blocks: one variable more, in range, not yet bound, and no 17th universal
universals_more : (Q : List Bound) (q : Quant) (v : ℕ) → length (universals Q) ≤ universals_most
    → (universal? q && leb universals_most (length (universals Q))) ≡ false → length (universals (Q ++ (record { kind = q; var = v } ∷ []))) ≤ universals_most
universals_more Q exists v h f = rw (universals_snoc_exists Q v) h
universals_more Q forall v h f =
    rw (universals_snoc_forall Q v, length-append (universals Q) (v ∷ [])) (omega (arith, leb-false universals_most (length (universals Q)) f))

range_more : (Q : List Bound) (b : Bound) (n : ℕ) → ((i : ℕ) → i < length Q → (1 ≤ var_at Q i) × (var_at Q i ≤ n)) → 1 ≤ b.var → b.var ≤ n
    → (i : ℕ) → i < length (Q ++ (b ∷ [])) → (1 ≤ var_at (Q ++ (b ∷ [])) i) × (var_at (Q ++ (b ∷ [])) i ≤ n)
range_more Q b n h lo hi i l = by_cases (dec_lt i (length Q)) old new
  where
    old : i < length Q → (1 ≤ var_at (Q ++ (b ∷ [])) i) × (var_at (Q ++ (b ∷ [])) i ≤ n)
    old m = rw (var_at_snoc Q b i m) (h i m)

    new : (i < length Q → ⊥) → (1 ≤ var_at (Q ++ (b ∷ [])) i) × (var_at (Q ++ (b ∷ [])) i ≤ n)
    new m =
        let e : i ≡ length Q = omega (arith, length_snoc Q b) in
        let last : var_at (Q ++ (b ∷ [])) i ≡ b.var = ap (var_at (Q ++ (b ∷ []))) e ∙ var_at_last Q b in
        rw last (lo, hi)

kept_bind : (st : State) (q : Quant) (v : ℕ) → Kept st → 1 ≤ v → v ≤ st.variables → bound st.blocks v ≡ false → full st q ≡ false → Kept (bind st q v)
kept_bind st q v k lo hi b f = record {
  proper = record {
    variables = k.proper.variables;
    in_range = range_more st.blocks (record { kind = q; var = v }) st.variables k.proper.in_range lo hi;
    distinct = distinct_snoc st.blocks (record { kind = q; var = v }) k.proper.distinct b;
    universals = universals_more st.blocks q v k.proper.universals f;
    clauses = k.proper.clauses;
    closed = λ c m w h. bound_snoc st.blocks (record { kind = q; var = v }) w ∙ ap (λ (t : Bool). t || eqb v w) (k.proper.closed c m w h);
    one_way = k.proper.one_way;
    plain_words = k.proper.plain_words;
    negated_words = k.proper.negated_words;
  };
  counted = k.counted;
  count = k.count;
}

after_block : (st : State) (q : Quant) (t : Bool) (m : Number) → Kept st → After (block_token st q t m)
after_block st q t no_number k = tt
after_block st q t (number (negsuc n)) k = tt
after_block st q t (number (pos zero)) k = after_cond t bad_token (moved st at_block) (kept_move st at_block k) tt
after_block st q t (number (pos (suc n))) k =
    after_unless (first_of (range ∷ twice ∷ many ∷ [])) (bind st q (suc n)) (λ e. (passed e, tt))
  where
    range : Fault
    range = fault no_variable (ltb st.variables (suc n))

    twice : Fault
    twice = fault bound_twice (bound st.blocks (suc n))

    many : Fault
    many = fault too_many_universals (full st q)

    passed : first_of (range ∷ twice ∷ many ∷ []) ≡ passes → Kept (bind st q (suc n))
    passed e =
        let a = (passes_cons range (twice ∷ many ∷ [])).0 e in
        let b = (passes_cons twice (many ∷ [])).0 a.1 in
        let c = (passes_cons many []).0 b.1 in
        kept_bind st q (suc n) k (omega arith) (ltb-false st.variables (suc n) a.0) b.0 c.0

-- ---- clauses
after_literal : (st : State) (c : Clause) (l : Literal) → Kept st → Inside st c → 1 ≤ l.variable → After (literal_token st c l)
after_literal st c l k i lo =
    after_unless (first_of (range ∷ free ∷ both ∷ [])) (moved st (in_clause (with_literal c l)))
    (λ e. (kept_move st (in_clause (with_literal c l)) k, record { sound = passed e; more = i.more }))
  where
    range : Fault
    range = fault no_variable (ltb st.variables l.variable)

    free : Fault
    free = fault not_bound (not (bound st.blocks l.variable))

    both : Fault
    both = fault both_ways (has_opposite c l)

    passed : first_of (range ∷ free ∷ both ∷ []) ≡ passes → Sound st.blocks (with_literal c l)
    passed e =
        let a = (passes_cons range (free ∷ both ∷ [])).0 e in
        let b = (passes_cons free (both ∷ [])).0 a.1 in
        let d = (passes_cons both []).0 b.1 in
        let hi : l.variable ≤ variables_most = omega (arith, ltb-false st.variables l.variable a.0, k.proper.variables) in
        sound_literal st.blocks c l i.sound lo hi (not-false (bound st.blocks l.variable) b.0) d.0

after_clause : (st : State) (c : Clause) (m : Number) → Kept st → Inside st c → After (clause_token st c m)
after_clause st c no_number k i = tt
after_clause st c (number (pos zero)) k i = (kept_ended st c k i, tt)
after_clause st c (number (pos (suc n))) k i = after_literal st c (record { variable = suc n; negated = false }) k i (omega arith)
after_clause st c (number (negsuc n)) k i = after_literal st c (record { variable = suc n; negated = true }) k i (omega arith)

after_begin_clause : (st : State) (bytes : List ℕ) → Kept st → After (begin_clause st bytes)
after_begin_clause st bytes k = split (complete st) refl
  where
    split : (t : Bool) → complete st ≡ t → After (elim t as (λ b. Next) [ true ↦ stop clause_count | false ↦ clause_token st no_literal (number_of bytes) ])
    split true e = tt
    split false e =
        after_clause st no_literal (number_of bytes) k (record { sound = sound_none st.blocks; more = leb-false st.count (length st.clauses) e })

after_block_place : (st : State) (bytes : List ℕ) → Kept st → After (block_place st bytes)
after_block_place st bytes k = a? (spelled word_a bytes)
  where
    e? : (t : Bool) → After (elim t as (λ b. Next) [ true ↦ go (moved st (in_block exists false)) | false ↦ begin_clause st bytes ])
    e? true = (kept_move st (in_block exists false) k, tt)
    e? false = after_begin_clause st bytes k

    a? : (t : Bool) → After (elim t as (λ b. Next) [ true ↦ go (moved st (in_block forall false)) | false ↦ elim (spelled word_e bytes) [ true ↦ go (moved st (in_block exists false)) | false ↦ begin_clause st bytes ] ])
    a? true = (kept_move st (in_block forall false) k, tt)
    a? false = e? (spelled word_e bytes)

-- ---- one token
after_step_at : (p : Place) (st : State) (bytes : List ℕ) → Kept st → AtPlace p st → After (step_at p st bytes)
after_step_at at_mark st bytes k h = after_cond (spelled word_p bytes) bad_token (moved st at_cnf) (kept_move st at_cnf k) (headed_move st at_cnf h)
after_step_at at_cnf st bytes k h = after_cond (spelled word_cnf bytes) bad_token (moved st at_variables) (kept_move st at_variables k) (headed_move st at_variables h)
after_step_at at_variables st bytes k h =
    after_limited variables_most (number_of bytes) (with_variables st) (λ n l. (kept_variables st n k h l, record { blocks = h.blocks; clauses = h.clauses }))
after_step_at at_count st bytes k h = after_limited clauses_most (number_of bytes) (with_count st) (λ n l. (kept_count st n k h l, tt))
after_step_at at_block st bytes k h = after_block_place st bytes k
after_step_at (in_block q some) st bytes k h = after_block st q some (number_of bytes) k
after_step_at at_clause st bytes k h = after_begin_clause st bytes k
after_step_at (in_clause c) st bytes k h = after_clause st c (number_of bytes) k h

after_step : (st : State) (bytes : List ℕ) → Kept st → AtPlace st.place st → After (step st bytes)
unfolding step
after_step st bytes k h = after_step_at st.place st bytes k h

-- ---- the text's end
unread≢formula : {n m : ℕ} {F : Formula} → unread n m ≡ formula F → ⊥
unread≢formula e = let z : ◌≡◌ {A = ℕ} 0 1 = cc in omega arith

between_proper : (n : ℕ) (st : State) (F : Formula) → Kept st → between_clauses n st ≡ formula F → Proper F
unfolding completed
between_proper n st F k = split (complete st)
  where
    split : (t : Bool) → cond t (formula (formula_of st)) (unread clause_count n) ≡ formula F → Proper F
    split true e = let same : so_far st ≡ F = cc in rw (sym same) k.proper
    split false e = absurd (unread≢formula e)

end_proper : (p : Place) (n : ℕ) (st : State) (F : Formula) → Kept st → end_at p n st ≡ formula F → Proper F
end_proper at_mark n st F k e = absurd (unread≢formula e)
end_proper at_cnf n st F k e = absurd (unread≢formula e)
end_proper at_variables n st F k e = absurd (unread≢formula e)
end_proper at_count n st F k e = absurd (unread≢formula e)
end_proper at_block n st F k e = between_proper n st F k e
end_proper (in_block q some) n st F k e = absurd (unread≢formula e)
end_proper at_clause n st F k e = between_proper n st F k e
end_proper (in_clause c) n st F k e = absurd (unread≢formula e)

read_from_proper : (n : ℕ) (st : State) (ts : List Token) (F : Formula) → Kept st → AtPlace st.place st → read_from n st ts ≡ formula F → Proper F
unfolding read_from
read_from_proper n st [] F k h e = end_proper st.place n st F k e
read_from_proper n st (t ∷ ts) F k h e = split (step st t.bytes) (after_step st t.bytes k h)
    (λ st' k' h' e'. read_from_proper n st' ts F k' h' e') e
  where
    split : (x : Next) → After x → ((st' : State) → Kept st' → AtPlace st'.place st' → read_from n st' ts ≡ formula F → Proper F)
        → elim x as (λ y. Reading) [ stop m ↦ unread m t.at | go st' ↦ read_from n st' ts ] ≡ formula F → Proper F
    split (stop m) a rest e = absurd (unread≢formula e)
    split (go st') a rest e = rest st' a.0 a.1 e

pub read_proper : (text : List ℕ) (F : Formula) → read text ≡ formula F → Proper F
unfolding read
read_proper text F e =
    read_from_proper (length text) begin (tokens_of (uncommented false text 0)) F
    (record { proper = proper_none 0 (omega arith); counted = omega arith; count = omega arith }) (record { blocks = refl; clauses = refl }) e

-- ---- numbers: a token gives the value of its digits, cut at number_most, and no limit tells the two apart
-- the value of the digits l after digits of value n
unfoldable pub value_from : ℕ → List ℕ → ℕ
value_from n [] = n
value_from n (b ∷ l) = value_from (n * 10 + (b - 48)) l

-- all are digits
unfoldable pub digits : List ℕ → Bool
digits [] = true
digits (b ∷ l) = digit b && digits l

abbrev pub signed : Bool → ℕ → ℤ
signed negated n = cond negated (neg_ℤ (pos n)) (pos n)

pub grown_min : (n b : ℕ) → grown (min n number_most) b ≡ min (n * 10 + (b - 48)) number_most
unfolding grown
grown_min n b = split (leb number_most (min n number_most * 10 + (b - 48))) refl
  where
    split : (t : Bool) → leb number_most (min n number_most * 10 + (b - 48)) ≡ t
        → cond t number_most (min n number_most * 10 + (b - 48)) ≡ min (n * 10 + (b - 48)) number_most
    split true e = omega (arith, leb-true number_most (min n number_most * 10 + (b - 48)) e)
    split false e = omega (arith, leb-false number_most (min n number_most * 10 + (b - 48)) e)

sized_on : (negated : Bool) (n b : ℕ) (l : List ℕ) → digit b ≡ true → sized negated n (b ∷ l) ≡ sized negated (grown n b) l
unfolding sized
sized_on negated n b l e = rw (e, sized)

sized_off : (negated : Bool) (n b : ℕ) (l : List ℕ) → digit b ≡ false → sized negated n (b ∷ l) ≡ no_number
unfolding sized
sized_off negated n b l e = rw (e, sized)

pub sized_value : (negated : Bool) (n : ℕ) (l : List ℕ) → digits l ≡ true
    → sized negated (min n number_most) l ≡ number (signed negated (min (value_from n l) number_most))
unfolding sized value_from digits
sized_value negated n [] h = refl
sized_value negated n (b ∷ l) h =
    sized_on negated (min n number_most) b l (and_left (digit b) (digits l) h)
    ∙ ap (λ (m : ℕ). sized negated m l) (grown_min n b)
    ∙ sized_value negated (n * 10 + (b - 48)) l (and_right (digit b) (digits l) h)

-- a byte that is no digit spoils the number
pub sized_no : (negated : Bool) (n : ℕ) (l : List ℕ) → digits l ≡ false → sized negated n l ≡ no_number
unfolding digits
sized_no negated n [] h = absurd (true≢false h)
sized_no negated n (b ∷ l) h = split (digit b) refl (λ e. sized_no negated (grown n b) l e)
  where
    split : (t : Bool) → digit b ≡ t → (digits l ≡ false → sized negated (grown n b) l ≡ no_number) → sized negated n (b ∷ l) ≡ no_number
    split true e rest = sized_on negated n b l e ∙ rest (rw e at h)
    split false e rest = sized_off negated n b l e

pub counting_value : (negated : Bool) (b : ℕ) (l : List ℕ) → 49 ≤ b → b ≤ 57 → digits l ≡ true
    → counting negated (b ∷ l) ≡ number (signed negated (min (value_from (b - 48) l) number_most))
unfolding counting
counting_value negated b l lo hi h =
    let small : b - 48 ≡ min (b - 48) number_most = omega arith in
    rw (le-leb 49 b lo, le-leb b 57 hi, counting) (ap (λ (m : ℕ). sized negated m l) small ∙ sized_value negated (b - 48) l h)

-- a number is past a limit where its cut is
pub past_limit : (limit n : ℕ) → limit < number_most → ltb limit (min n number_most) ≡ ltb limit n
past_limit limit n h = split (ltb limit n) refl
  where
    split : (t : Bool) → ltb limit n ≡ t → ltb limit (min n number_most) ≡ ltb limit n
    split true e = lt-ltb limit (min n number_most) (omega (arith, ltb-true limit n e)) ∙ sym e
    split false e = le-ltb limit (min n number_most) (omega (arith, ltb-false limit n e)) ∙ sym e
