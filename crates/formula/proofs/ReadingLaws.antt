-- A text read token by token: what is left from each place gives the same, and the tables hold what is read so far.
use mathlib.Core.Path.{◌≡◌, refl, sym, ap, ap₂, ◌∙◌, subst}
use mathlib.Core.Bool.{Bool, true, false, cond}
use mathlib.Core.List.{List, [], ◌∷◌, ◌++◌, map}
use Prim.Native.Nat.{ℕ, suc, ◌+◌, ◌-◌, ◌*◌, ◌≤◌, ◌<◌, zero-le}
use native.Mathlib.Omega.{arith}
use lib.ListN.{length, set, take, drop, length-append, length-drop}
use borrow.Author.Tests.{le-leb}
use Rattle.rules.specs.definitions.Layout.{prefix_words, clause_words}
use Rattle.rules.specs.declared.refusals.Refused.{Refused}
use Rattle.rules.specs.definitions.Limits.{variables_most, clauses_most}
use Rattle.rules.specs.definitions.Refusals.{clause_count, refusal_number}
use Rattle.std.proofs.Common.{Result, Ok, Err, take_all}
use Rattle.std.specs.Result.{is_err}
use Rattle.rules.specs.definitions.Formula as formula
use Rattle.rules.specs.definitions.Formula.{Bound, Formula, completed}
use Rattle.rules.specs.definitions.Text.{Token, tokens, Rest, uncommented}
use Rattle.rules.specs.definitions.Reading as reading
use Rattle.rules.specs.definitions.Reading.{Reading, read_from, step, end_at, between_clauses, formula_of, complete}
use Rattle.rules.specs.definitions.Reading.Reading.{unread, formula as read_formula}
use Rattle.rules.specs.definitions.Reading.Place.{at_mark, at_cnf, at_variables, at_count, at_block, in_block, at_clause, in_clause}
use Rattle.rules.specs.definitions.Reading.Next.{stop, go}
use Rattle.rules.specs.definitions.Tables.{bound_word, clause_row, rows_of, holding, prefix_after, clauses_after}
use Rattle.rules.specs.definitions.Services.{read_answer}
use Rattle.sets.specs.declared.Clause.{Clause}
use Rattle.sets.specs.Values.{set_of, clause_of}
use Rattle.formula.specs.declared.states.State.{State}
use Rattle.formula.specs.declared.states.Next.{Next as Made}
use Rattle.formula.specs.declared.states.Next.TheVariants as N
use Rattle.formula.specs.declared.reading.Counts.{Counts}
use Rattle.formula.specs.States.{place_of, state_of, Stands, Begun, After, Takes}
use Rattle.formula.specs.Readings.{Told, Ends, Filled, Left}
use Rattle.formula.proofs.StateLaws.{few_blocks, few_clauses}
use Rattle.theory.specs.laws.Tables.{holding_over, holding_word, holding_put, rows_snoc}

-- ---- the text's end
module _ (n : ℕ) (s : State) (bs : List Bound) (cs : List formula.Clause) (h : Stands s bs cs) where
  pub ends_whole : s.header.count ≤ s.done → Told (between_clauses n (state_of s bs cs)) (Ok record { variables = s.header.variables; clauses = s.done; universals = s.prefix.universals })
  unfolding completed
  ends_whole l =
      let e : complete (state_of s bs cs) ≡ true = le-leb s.header.count (length cs) (omega (arith, h.kept.done_all)) in
      rw (e, h.kept.done_all, h.kept.universals)

-- the formula read is what the blocks and the clauses give
abbrev Gives : reading.State → Formula → Type 0
Gives st F = (F.prefix ≡ st.blocks) × (F.matrix ≡ st.clauses)

between_gives : (n : ℕ) (st : reading.State) (F : Formula) (t : Bool) → cond t (read_formula (formula_of st)) (unread clause_count n) ≡ read_formula F → Gives st F
unfolding completed
between_gives n st F true e = let o : formula_of st ≡ F = cc in (ap (λ (G : Formula). G.prefix) (sym o), ap (λ (G : Formula). G.matrix) (sym o))
between_gives n st F false e = let z : ◌≡◌ {A = ℕ} 0 1 = cc in absurd (omega arith)

never : {A : Type 0} (k n : ℕ) (F : Formula) → unread k n ≡ read_formula F → A
never k n F e = let z : ◌≡◌ {A = ℕ} 0 1 = cc in absurd (omega arith)

end_gives : (p : reading.Place) (n : ℕ) (st : reading.State) (F : Formula) → end_at p n st ≡ read_formula F → Gives st F
end_gives at_mark n st F e = never _ n F e
end_gives at_cnf n st F e = never _ n F e
end_gives at_variables n st F e = never _ n F e
end_gives at_count n st F e = never _ n F e
end_gives at_block n st F e = between_gives n st F (complete st) e
end_gives (in_block q some) n st F e = never _ n F e
end_gives at_clause n st F e = between_gives n st F (complete st) e
end_gives (in_clause c) n st F e = never _ n F e

-- ---- one token
read_stops : (n : ℕ) (st : reading.State) (t : Token) (ts : List Token) (k : ℕ) → step st t.bytes ≡ stop k → read_from n st (t ∷ ts) ≡ unread k t.at
unfolding read_from
read_stops n st t ts k e = rw (read_from, e)

read_goes : (n : ℕ) (st st' : reading.State) (t : Token) (ts : List Token) → step st t.bytes ≡ go st' → read_from n st (t ∷ ts) ≡ read_from n st' ts
unfolding read_from
read_goes n st st' t ts e = rw (read_from, e)

read_ends : (n : ℕ) (st : reading.State) (ts : List Token) → ts ≡ [] → read_from n st ts ≡ end_at st.place n st
unfolding read_from
read_ends n st ts e = ap (read_from n st) e

-- ---- the loop over the tokens
-- what is read before the tokens ts of those that are all: a state that stands for blocks and clauses, which the tables hold; these tokens give what all give
pub record Held (n : ℕ) (all : List Token) (prefix clauses prefix' clauses' : List ℕ) (ts : List Token) (s : State) : Type 0 where
  pub blocks : List Bound
  pub matrix : List formula.Clause
  pub stands : Stands s blocks matrix
  pub rest : read_from n (state_of s blocks matrix) ts ≡ read_from n reading.begin all
  pub rows : length (rows_of clause_row matrix) ≡ 2 * length matrix
  pub prefix_held : prefix' ≡ holding prefix_words (map bound_word blocks) prefix
  pub clauses_held : clauses' ≡ holding clause_words (rows_of clause_row matrix) clauses

length_map : {A B : Type 0} (f : A → B) (l : List A) → length (map f l) ≡ length l
length_map f [] = refl
length_map f (a ∷ l) = ap suc (length_map f l)

map_snoc : {A B : Type 0} (f : A → B) (l : List A) (a : A) → map f (l ++ (a ∷ [])) ≡ map f l ++ (f a ∷ [])
map_snoc f [] a = refl
map_snoc {B = B} f (b ∷ l) a = ap (λ (k : List B). f b ∷ k) (map_snoc f l a)

row_words : (c : Clause) → length (clause_row (clause_of c)) ≡ 2
unfolding clause_of set_of
row_words c = refl

-- one variable's word more
prefix_more : (prefix prefix' : List ℕ) (bs : List Bound) (q : Bound) (w i : ℕ) → prefix' ≡ holding prefix_words (map bound_word bs) prefix → i ≡ length bs
    → length (bs ++ (q ∷ [])) ≤ variables_most → w ≡ bound_word q → prefix_words ≤ length prefix → set prefix' i w ≡ holding prefix_words (map bound_word (bs ++ (q ∷ []))) prefix
unfolding prefix_words
prefix_more prefix prefix' bs q w i e f l g m =
    ap (λ (t : List ℕ). set t i w) e
    ∙ holding_word prefix_words (map bound_word bs) prefix w i (length_map bound_word bs ∙ sym f) (omega (arith, length-append bs (q ∷ []))) m
    ∙ ap (λ (ws : List ℕ). holding prefix_words ws prefix) (ap (λ (v : ℕ). map bound_word bs ++ (v ∷ [])) g ∙ sym (map_snoc bound_word bs q))

-- one clause's row more
rows_more : (cs : List formula.Clause) (c : Clause) → length (rows_of clause_row cs) ≡ 2 * length cs
    → length (rows_of clause_row (cs ++ (clause_of c ∷ []))) ≡ 2 * length (cs ++ (clause_of c ∷ []))
rows_more cs c e =
    ap (λ (l : List ℕ). length l) (rows_snoc clause_row cs (clause_of c))
    ∙ length-append (rows_of clause_row cs) (clause_row (clause_of c))
    ∙ omega (arith, row_words c, length-append cs (clause_of c ∷ []))

clauses_more : (clauses clauses' clauses'' : List ℕ) (cs : List formula.Clause) (c : Clause) (i : ℕ) → clauses' ≡ holding clause_words (rows_of clause_row cs) clauses → i ≡ length cs
    → length (rows_of clause_row cs) ≡ 2 * length cs → length (cs ++ (clause_of c ∷ [])) ≤ clauses_most
    → clauses'' ≡ take (2 * i) clauses' ++ (clause_row (clause_of c) ++ drop (2 * i + 2) clauses')
    → clauses'' ≡ holding clause_words (rows_of clause_row (cs ++ (clause_of c ∷ []))) clauses
unfolding clause_words
clauses_more clauses clauses' clauses'' cs c i e f g l h =
    h
    ∙ ap (λ (t : List ℕ). take (2 * i) t ++ (clause_row (clause_of c) ++ drop (2 * i + 2) t)) e
    ∙ holding_put clause_words (rows_of clause_row cs) clauses (clause_row (clause_of c)) (2 * i) (2 * i + 2) (omega arith) (omega (arith, row_words c)) (omega (arith, length-append cs (clause_of c ∷ [])))
    ∙ ap (λ (ws : List ℕ). holding clause_words ws clauses) (sym (rows_snoc clause_row cs (clause_of c)))

few_rows : (cs : List formula.Clause) → length (rows_of clause_row cs) ≡ 2 * length cs → length cs ≤ clauses_most → length (rows_of clause_row cs) ≤ clause_words
unfolding clause_words
few_rows cs e l = omega arith

onward : (n : ℕ) (all ts us : List Token) (t : Token) (st st' : reading.State) → read_from n st ts ≡ read_from n reading.begin all → ts ≡ t ∷ us → step st t.bytes ≡ go st'
    → read_from n st' us ≡ read_from n reading.begin all
onward n all ts us t st st' h first e = sym (read_goes n st st' t us e) ∙ ap (read_from n st) (sym first) ∙ h

module _ {n : ℕ} {all ts us : List Token} {t : Token} {prefix clauses prefix' clauses' : List ℕ} {s : State} {next : Result Made Refused}
    (h : Held n all prefix clauses prefix' clauses' ts s) (first : ts ≡ t ∷ us) (takes : Takes s t.at (λ (st : reading.State). step st t.bytes) next) where
  -- what the token makes
  made : (m : Result Made Refused) → next ≡ m → After t.at h.blocks h.matrix (step (state_of s h.blocks h.matrix) t.bytes) m
  made m e = subst (After t.at h.blocks h.matrix (step (state_of s h.blocks h.matrix) t.bytes)) e (takes h.blocks h.matrix h.stands)

  pub held_go : (r : State) → next ≡ Ok (N.Go r) → Held n all prefix clauses prefix' clauses' us r
  held_go r e =
      let m = made (Ok (N.Go r)) e in
      record {
        blocks = h.blocks;
        matrix = h.matrix;
        stands = m.1;
        rest = onward n all ts us t _ _ h.rest first m.0;
        rows = h.rows;
        prefix_held = h.prefix_held;
        clauses_held = h.clauses_held;
      }

  pub held_bind : {prefix'' clauses'' : List ℕ} (w : ℕ) (r : State) → next ≡ Ok (N.Bind w r) → prefix_words ≤ length prefix → prefix'' ≡ set prefix' s.prefix.placed w → clauses'' ≡ clauses'
      → Held n all prefix clauses prefix'' clauses'' us r
  held_bind w r e l f g =
      let m = made (Ok (N.Bind w r)) e in
      let q : Bound = m.0 in
      record {
        blocks = h.blocks ++ (q ∷ []);
        matrix = h.matrix;
        stands = m.3;
        rest = onward n all ts us t _ _ h.rest first m.1;
        rows = h.rows;
        prefix_held = f ∙ prefix_more prefix prefix' h.blocks q w s.prefix.placed h.prefix_held h.stands.kept.placed (few_blocks r (h.blocks ++ (q ∷ [])) h.matrix m.3) m.2 l;
        clauses_held = g ∙ h.clauses_held;
      }

  pub held_ended : {prefix'' clauses'' : List ℕ} (c : Clause) (r : State) → next ≡ Ok (N.Ended c r) → prefix'' ≡ prefix'
      → clauses'' ≡ take (2 * s.done) clauses' ++ (clause_row (clause_of c) ++ drop (2 * s.done + 2) clauses') → Held n all prefix clauses prefix'' clauses'' us r
  held_ended {clauses'' = clauses''} c r e f g =
      let m = made (Ok (N.Ended c r)) e in
      record {
        blocks = h.blocks;
        matrix = h.matrix ++ (clause_of c ∷ []);
        stands = m.1;
        rest = onward n all ts us t _ _ h.rest first m.0;
        rows = rows_more h.matrix c h.rows;
        prefix_held = f ∙ h.prefix_held;
        clauses_held = clauses_more clauses clauses' clauses'' h.matrix c s.done h.clauses_held h.stands.kept.done_all h.rows (few_clauses r h.blocks (h.matrix ++ (clause_of c ∷ [])) m.1) g;
      }

  -- there is room for the word, and for the clause
  pub bind_room : (w : ℕ) (r : State) → next ≡ Ok (N.Bind w r) → s.prefix.placed < prefix_words
  unfolding prefix_words
  bind_room w r e =
      let m = made (Ok (N.Bind w r)) e in
      omega (arith, h.stands.kept.placed, few_blocks r (h.blocks ++ (m.0 ∷ [])) h.matrix m.3, length-append h.blocks (m.0 ∷ []))

  pub ended_room : (c : Clause) (r : State) → next ≡ Ok (N.Ended c r) → s.done < clauses_most
  ended_room c r e =
      let m = made (Ok (N.Ended c r)) e in
      omega (arith, h.stands.kept.done_all, few_clauses r h.blocks (h.matrix ++ (clause_of c ∷ [])) m.1, length-append h.matrix (clause_of c ∷ []))

  -- the token is refused
  pub filled_refused : (r : Refused) (o : Result Counts Refused) → next ≡ Err r → o ≡ Err r → Filled (read_from n reading.begin all) prefix clauses prefix' clauses' o
  filled_refused r o e f =
      let m = made (Err r) e in
      let u : read_from n reading.begin all ≡ unread (refusal_number r.refusal) t.at
      = sym h.rest ∙ ap (read_from n (state_of s h.blocks h.matrix)) first ∙ read_stops n (state_of s h.blocks h.matrix) t us (refusal_number r.refusal) m.0 in
      record {
        blocks = h.blocks;
        matrix = h.matrix;
        told = rw (u, f) (refl, ap (λ (q : Refused). q.place) m.1, ap (λ (q : Refused). q.variable) m.1);
        whole = λ F f. never (refusal_number r.refusal) t.at F (sym u ∙ f);
        few_blocks = few_blocks s h.blocks h.matrix h.stands;
        few_clauses = few_rows h.matrix h.rows (few_clauses s h.blocks h.matrix h.stands);
        prefix_held = h.prefix_held;
        clauses_held = h.clauses_held;
      }

-- before the first token
pub held_begin : (n : ℕ) (all ts : List Token) (prefix clauses : List ℕ) (s : State) → Begun s → ts ≡ all → prefix ≡ holding prefix_words [] prefix → clauses ≡ holding clause_words [] clauses
    → Held n all prefix clauses prefix clauses ts s
unfolding rows_of
held_begin n all ts prefix clauses s b e p q = record {
  blocks = [];
  matrix = [];
  stands = b.1;
  rest = ap₂ (λ (st : reading.State) (us : List Token). read_from n st us) b.0 e;
  rows = refl;
  prefix_held = p;
  clauses_held = q;
}

-- past the last token
pub filled_ended : {n : ℕ} {all ts : List Token} {prefix clauses prefix' clauses' : List ℕ} {s : State} (r : Result Counts Refused) → Held n all prefix clauses prefix' clauses' ts s
    → ts ≡ [] → Ends s (λ (st : reading.State). end_at st.place n st) r → Filled (read_from n reading.begin all) prefix clauses prefix' clauses' r
filled_ended {n = n} {all = all} {ts = ts} {s = s} r h l e =
    let u : read_from n reading.begin all ≡ end_at (place_of s.place) n (state_of s h.blocks h.matrix)
    = sym h.rest ∙ read_ends n (state_of s h.blocks h.matrix) ts l in
    record {
      blocks = h.blocks;
      matrix = h.matrix;
      told = subst (λ (w : Reading). Told w r) (sym u) (e h.blocks h.matrix h.stands);
      whole = λ F f. end_gives (place_of s.place) n (state_of s h.blocks h.matrix) F (sym u ∙ f);
      few_blocks = few_blocks s h.blocks h.matrix h.stands;
      few_clauses = few_rows h.matrix h.rows (few_clauses s h.blocks h.matrix h.stands);
      prefix_held = h.prefix_held;
      clauses_held = h.clauses_held;
    }

-- ---- the whole text
-- the tokens behind the comments give what the text reads to
abbrev pub behind : List ℕ → ℕ → Reading
behind s from = read_from (length s) reading.begin (tokens false (take (length s - from) (drop from s)) from)

pub read_body : (s : List ℕ) (from : ℕ) → record { at = from; bytes = drop from s } ≡ uncommented false s 0 → behind s from ≡ reading.read s
unfolding reading.read
read_body s from e =
    let all : take (length s - from) (drop from s) ≡ drop from s = take_all (length s - from) (drop from s) (omega (arith, length-drop from s)) in
    ap (λ (l : List ℕ). read_from (length s) reading.begin (tokens false l from)) all
    ∙ ap (λ (r : Rest). read_from (length s) reading.begin (reading.tokens_of r)) e

-- an answer tells what the text reads to
told_refused : (R : Reading) (r : Result Counts Refused) → is_err r ≡ true → Told R r → (k : ℕ) × (at : ℕ) × (R ≡ unread k at)
told_refused (unread k at) r e t = (k, at, refl)
told_refused (read_formula F) (Err r) e t = absurd t
told_refused (read_formula F) (Ok c) e t = absurd (cc)

told_formula : (R : Reading) (r : Result Counts Refused) → is_err r ≡ false → Told R r → (F : Formula) × (R ≡ read_formula F)
told_formula (unread k at) (Err r) e t = absurd (cc)
told_formula (unread k at) (Ok c) e t = absurd t
told_formula (read_formula F) r e t = (F, refl)

-- the tables cleared, filled by the tokens, and, where these were refused, cleared again
module _ (text prefix clauses prefix' clauses' prefix'' clauses'' : List ℕ) (from : ℕ) (r : Result Counts Refused) (clear_prefix : prefix' ≡ holding prefix_words [] prefix)
    (clear_clauses : clauses' ≡ holding clause_words [] clauses) (body : record { at = from; bytes = drop from text } ≡ uncommented false text 0)
    (h : Filled (behind text from) prefix' clauses' prefix'' clauses'' r) where
  prefix_room : length (map bound_word h.blocks) ≤ prefix_words
  unfolding prefix_words
  prefix_room = omega (arith, length_map bound_word h.blocks, h.few_blocks)

  told_whole : Told (reading.read text) r
  told_whole = subst (λ (w : Reading). Told w r) (read_body text from body) h.told

  pub left_refused : (prefix''' clauses''' : List ℕ) → is_err r ≡ true → prefix''' ≡ holding prefix_words [] prefix'' → clauses''' ≡ holding clause_words [] clauses''
      → Left text prefix clauses prefix''' clauses''' r
  left_refused prefix''' clauses''' i f g =
      let u = told_refused (reading.read text) r i told_whole in
      record {
        told = told_whole;
        prefix_left = f
            ∙ ap (holding prefix_words []) h.prefix_held
            ∙ holding_over prefix_words (map bound_word h.blocks) prefix' [] prefix_room
            ∙ ap (holding prefix_words []) clear_prefix
            ∙ holding_over prefix_words [] prefix [] zero-le
            ∙ ap (λ (w : Reading). prefix_after (read_answer w).leaves prefix) (sym u.2);
        clauses_left = g
            ∙ ap (holding clause_words []) h.clauses_held
            ∙ holding_over clause_words (rows_of clause_row h.matrix) clauses' [] h.few_clauses
            ∙ ap (holding clause_words []) clear_clauses
            ∙ holding_over clause_words [] clauses [] zero-le
            ∙ ap (λ (w : Reading). clauses_after (read_answer w).leaves clauses) (sym u.2);
      }

  pub left_formula : is_err r ≡ false → Left text prefix clauses prefix'' clauses'' r
  left_formula e =
      let F = told_formula (reading.read text) r e told_whole in
      let same = h.whole F.0 (read_body text from body ∙ F.1) in
      record {
        told = told_whole;
        prefix_left = h.prefix_held
            ∙ ap (holding prefix_words (map bound_word h.blocks)) clear_prefix
            ∙ holding_over prefix_words [] prefix (map bound_word h.blocks) zero-le
            ∙ ap (λ (bs : List Bound). holding prefix_words (map bound_word bs) prefix) (sym same.0)
            ∙ ap (λ (w : Reading). prefix_after (read_answer w).leaves prefix) (sym F.1);
        clauses_left = h.clauses_held
            ∙ ap (holding clause_words (rows_of clause_row h.matrix)) clear_clauses
            ∙ holding_over clause_words [] clauses (rows_of clause_row h.matrix) zero-le
            ∙ ap (λ (cs : List formula.Clause). holding clause_words (rows_of clause_row cs) clauses) (sym same.1)
            ∙ ap (λ (w : Reading). clauses_after (read_answer w).leaves clauses) (sym F.1);
      }
