-- Tables of rows of one width: a row read back, and a row written behind those that stand.
use Rattle.std.specs.Prelude.{◌≡◌, get_or, set, replicate}
use Rattle.std.proofs.Math.Path.{sym, ap}
use Rattle.std.proofs.Common.{◌∙◌, mul-suc, mul-zero, mul-le-mul_left, get_or-append-add, take-suc, take_all, length-take-le, ext_get_or, get_or-take, get_or-drop}
use mathlib.Core.List.{List, [], ◌∷◌, ◌++◌, append_assoc, append-nil}
use Prim.Native.Nat.{ℕ, zero, suc, ◌+◌, ◌-◌, ◌*◌, ◌≤◌, ◌<◌, zero-le}
use native.Mathlib.Omega.{arith}
use Rattle.std.proofs.Math.ListN.{length, take, drop, length-append, length-drop, get_or-append}
use Rattle.std.proofs.lemmas.List.{length-replicate, get_or-replicate, replicate-append-replicate, set_at, set_split}
use Rattle.std.proofs.Math.Seq.{take_at, drop_at, drop-append-add, append_snoc}
use Rattle.rules.specs.definitions.Tables.{padded, rows_of, holding}

-- ---- rows of one width
mul_suc_le : (w i n : ℕ) → i < n → w * i + w ≤ w * n
mul_suc_le w i n h = let m : w * suc i ≤ w * n = mul-le-mul_left w h in omega (arith, mul-suc w i)

-- every row of the list is w words wide
abbrev pub Wide : {A : Type 0} → ℕ → (A → List ℕ) → A → List A → Type 0
Wide w f d rows = (i : ℕ) → i < length rows → length (f (get_or rows i d)) ≡ w

pub rows_snoc : {A : Type 0} (f : A → List ℕ) (rows : List A) (row : A) → rows_of f (rows ++ (row ∷ [])) ≡ rows_of f rows ++ f row
unfolding rows_of
rows_snoc f [] row = append-nil (f row)
rows_snoc f (a ∷ rows) row = ap (λ (l : List ℕ). f a ++ l) (rows_snoc f rows row) ∙ sym (append_assoc (f a) (rows_of f rows) (f row))

pub rows_length : {A : Type 0} (w : ℕ) (f : A → List ℕ) (d : A) (rows : List A) → Wide w f d rows → length (rows_of f rows) ≡ w * length rows
unfolding rows_of
rows_length w f d [] h = omega arith
rows_length w f d (a ∷ rows) h =
    let e : length (f a) ≡ w = h 0 (omega arith) in
    let ih : length (rows_of f rows) ≡ w * length rows = rows_length w f d rows (λ i l. h (suc i) (omega arith)) in
    length-append (f a) (rows_of f rows) ∙ omega (arith, mul-suc w (length rows))

-- word j of row i
pub rows_at : {A : Type 0} (w : ℕ) (f : A → List ℕ) (d : A) (rows : List A) → Wide w f d rows
    → (i j : ℕ) → i < length rows → j < w → get_or (rows_of f rows) (w * i + j) 0 ≡ get_or (f (get_or rows i d)) j 0
unfolding rows_of
rows_at w f d [] h i j hi hj = absurd (omega arith)
rows_at w f d (a ∷ rows) h zero j hi hj =
    let e : length (f a) ≡ w = h 0 (omega arith) in
    let z : w * 0 + j ≡ j = omega (arith, mul-zero w) in
    rw z (get_or-append (f a) (rows_of f rows) 0 j (omega arith))
rows_at w f d (a ∷ rows) h (suc i) j hi hj =
    let e : length (f a) ≡ w = h 0 (omega arith) in
    let z : w * suc i + j ≡ length (f a) + (w * i + j) = omega (arith, mul-suc w i) in
    rw z (get_or-append-add (f a) (rows_of f rows) (w * i + j) 0 ∙ rows_at w f d rows (λ k l. h (suc k) (omega arith)) i j (omega arith) hj)

-- ---- a table that holds words, otherwise zero
-- the first n words set to zero
pub holding_none : (n : ℕ) (l : List ℕ) → replicate n 0 ++ drop n l ≡ holding n [] l
unfolding holding padded
holding_none n l = let e : n ≡ n - 0 = omega arith in ap (λ (k : ℕ). replicate k 0 ++ drop n l) e

-- the same as `fill(0)` leaves it
pub holding_filled : (n : ℕ) (ws l : List ℕ) → n ≤ length l → ws ≡ replicate (length (take n l)) 0 → ws ++ drop n l ≡ holding n [] l
holding_filled n ws l h e = rw (e, length-take-le n l h) (holding_none n l)

abbrev pub zeros : ℕ → List ℕ
zeros n = replicate n 0

pub zeros_length : (n : ℕ) → length (zeros n) ≡ n
zeros_length n = length-replicate n 0

module _ (n : ℕ) (ws lent : List ℕ) where
  -- the words, the zeros, and what was lent
  pub flat : holding n ws lent ≡ ws ++ (zeros (n - length ws) ++ drop n lent)
  unfolding holding padded
  flat = append_assoc ws (zeros (n - length ws)) (drop n lent)

  pub holding_at : (k : ℕ) → k < length ws → get_or (holding n ws lent) k 0 ≡ get_or ws k 0
  holding_at k h = rw flat (get_or-append ws (zeros (n - length ws) ++ drop n lent) 0 k h)

  pub holding_past : (k : ℕ) → length ws ≤ k → k < n → get_or (holding n ws lent) k 0 ≡ 0
  holding_past k l h =
      let e : k ≡ length ws + (k - length ws) = omega arith in
      let m : k - length ws < length (zeros (n - length ws)) = omega (arith, zeros_length (n - length ws)) in
      ap (λ (t : List ℕ). get_or t k 0) flat
      ∙ ap (λ (i : ℕ). get_or (ws ++ (zeros (n - length ws) ++ drop n lent)) i 0) e
      ∙ get_or-append-add ws (zeros (n - length ws) ++ drop n lent) (k - length ws) 0
      ∙ get_or-append (zeros (n - length ws)) (drop n lent) 0 (k - length ws) m
      ∙ get_or-replicate {A = ℕ} (n - length ws) (k - length ws) 0 0 (omega arith)

  pub padded_length : length ws ≤ n → length (padded n ws) ≡ n
  unfolding padded
  padded_length l = length-append ws (zeros (n - length ws)) ∙ omega (arith, zeros_length (n - length ws))

  pub holding_drop : length ws ≤ n → drop n (holding n ws lent) ≡ drop n lent
  unfolding holding
  holding_drop l = drop_at (padded n ws) (drop n lent) n (padded_length l)

  pub holding_length : length ws ≤ n → n ≤ length lent → length (holding n ws lent) ≡ length lent
  unfolding holding
  holding_length l h = length-append (padded n ws) (drop n lent) ∙ omega (arith, padded_length l, length-drop n lent)

  -- what a table held is gone where it holds other words
  pub holding_over : (vs : List ℕ) → length ws ≤ n → holding n vs (holding n ws lent) ≡ holding n vs lent
  unfolding holding
  holding_over vs l = ap (λ (t : List ℕ). padded n vs ++ t) (holding_drop l)

  -- a row of words written behind those that stand
  pub holding_put : (r : List ℕ) (a b : ℕ) → length ws ≡ a → a + length r ≡ b → b ≤ n
      → take a (holding n ws lent) ++ (r ++ drop b (holding n ws lent)) ≡ holding n (ws ++ r) lent
  unfolding holding padded
  holding_put r a b e f h =
      let rest : List ℕ = drop n lent in
      let k : length (ws ++ r) ≡ length ws + length r = length-append ws r in
      let t : take a (holding n ws lent) ≡ ws = ap (take a) flat ∙ take_at ws (zeros (n - length ws) ++ rest) a e in
      let q : b ≡ length ws + length r = omega arith in
      let m : n - length ws ≡ length r + (n - length (ws ++ r)) = omega arith in
      let z : zeros (n - length ws) ≡ zeros (length r) ++ zeros (n - length (ws ++ r))
      = ap (λ (i : ℕ). zeros i) m ∙ sym (replicate-append-replicate (length r) (n - length (ws ++ r)) 0) in
      let d : drop b (holding n ws lent) ≡ zeros (n - length (ws ++ r)) ++ rest
      = ap (drop b) flat
      ∙ ap (λ (i : ℕ). drop i (ws ++ (zeros (n - length ws) ++ rest))) q
      ∙ drop-append-add ws (zeros (n - length ws) ++ rest) (length r)
      ∙ ap (λ (l : List ℕ). drop (length r) (l ++ rest)) z
      ∙ ap (drop (length r)) (append_assoc (zeros (length r)) (zeros (n - length (ws ++ r))) rest)
      ∙ drop_at (zeros (length r)) (zeros (n - length (ws ++ r)) ++ rest) (length r) (zeros_length (length r)) in
      rw (t, d) (sym (append_assoc ws r (zeros (n - length (ws ++ r)) ++ rest)) ∙ sym (append_assoc (ws ++ r) (zeros (n - length (ws ++ r))) rest))

  -- one word
  pub holding_word : (w i : ℕ) → length ws ≡ i → i < n → n ≤ length lent → set (holding n ws lent) i w ≡ holding n (ws ++ (w ∷ [])) lent
  holding_word w i e h l = set_split (holding n ws lent) i w (omega (arith, holding_length (omega arith) l)) ∙ holding_put (w ∷ []) i (suc i) e (omega arith) (omega arith)

-- what a table holds depends on the words past its minimum only
pub holding_same : (n : ℕ) (ws a b : List ℕ) → drop n a ≡ drop n b → holding n ws a ≡ holding n ws b
unfolding holding
holding_same n ws a b e = ap (λ (l : List ℕ). padded n ws ++ l) e

pub holding_twice : (n : ℕ) (ws vs a b : List ℕ) → length vs ≤ n → b ≡ holding n vs a → holding n ws b ≡ holding n ws a
holding_twice n ws vs a b h e = holding_same n ws b a (ap (drop n) e ∙ holding_drop n vs a h)

pub holding_again : (n : ℕ) (ws a b : List ℕ) → length ws ≤ n → b ≡ holding n ws a → b ≡ holding n ws b
holding_again n ws a b h e = e ∙ sym (holding_twice n ws ws a b h e)

-- ---- cleared tables
pub cleared : (n : ℕ) (lent t : List ℕ) → t ≡ holding n [] lent → t ≡ holding n [] t
cleared n lent t e = holding_again n [] lent t zero-le e

pub cleared_length : (n : ℕ) (lent t : List ℕ) → n ≤ length lent → t ≡ holding n [] lent → length t ≡ length lent
cleared_length n lent t l e = ap (λ (k : List ℕ). length k) e ∙ holding_length n [] lent zero-le l

-- ---- a table of rows
module _ {A : Type 0} (w n : ℕ) (f : A → List ℕ) (d : A) (rows : List A) (lent t : List ℕ) (wide : Wide w f d rows) (e : t ≡ holding n (rows_of f rows) lent) where
  -- word j of row i of the table
  pub table_word : (i j : ℕ) → i < length rows → j < w → get_or t (w * i + j) 0 ≡ get_or (f (get_or rows i d)) j 0
  table_word i j hi hj =
      let l : length (rows_of f rows) ≡ w * length rows = rows_length w f d rows wide in
      let m : w * i + w ≤ w * length rows = mul_suc_le w i (length rows) hi in
      rw e (holding_at n (rows_of f rows) lent (w * i + j) (omega arith) ∙ rows_at w f d rows wide i j hi hj)

  -- a word past the rows
  pub table_past : (i j : ℕ) → length rows ≤ i → w * i + j < n → get_or t (w * i + j) 0 ≡ 0
  table_past i j hi hj =
      let l : length (rows_of f rows) ≡ w * length rows = rows_length w f d rows wide in
      let m : w * length rows ≤ w * i = mul-le-mul_left w hi in
      rw e (holding_past n (rows_of f rows) lent (w * i + j) (omega arith) hj)

  -- the part of the table that a row is
  pub table_part : (i : ℕ) → i < length rows → take w (drop (w * i) t) ≡ f (get_or rows i d)
  table_part i hi = ext_get_or 0 (take w (drop (w * i) t)) (f (get_or rows i d)) (size ∙ sym (wide i hi)) word
    where
      l : length (rows_of f rows) ≡ w * length rows
      l = rows_length w f d rows wide

      m : w * i + w ≤ w * length rows
      m = mul_suc_le w i (length rows) hi

      long : length (rows_of f rows) ≤ length t
      long = rw (e, flat n (rows_of f rows) lent) (omega (arith, length-append (rows_of f rows) (zeros (n - length (rows_of f rows)) ++ drop n lent)))

      size : length (take w (drop (w * i) t)) ≡ w
      size = length-take-le w (drop (w * i) t) (omega (arith, length-drop (w * i) t, l, m, long))

      word : (j : ℕ) → j < length (take w (drop (w * i) t)) → get_or (take w (drop (w * i) t)) j 0 ≡ get_or (f (get_or rows i d)) j 0
      word j h = let k : j < w = omega (arith, size) in get_or-take w (drop (w * i) t) j 0 k ∙ get_or-drop (w * i) t j 0 ∙ table_word i j hi k

-- ---- a local row of n places, filled from the front
pub padded_more : (n : ℕ) (ws : List ℕ) (j : ℕ) → j < length ws → length ws ≤ n → set (padded n (take j ws)) j (get_or ws j 0) ≡ padded n (take (suc j) ws)
unfolding padded
padded_more n ws j h l =
    let k : length (take j ws) ≡ j = length-take-le j ws (omega arith) in
    let k' : length (take (suc j) ws) ≡ suc j = length-take-le (suc j) ws (omega arith) in
    let z : n - length (take j ws) ≡ suc (n - length (take (suc j) ws)) = omega arith in
    rw z (set_at (take j ws) 0 (zeros (n - length (take (suc j) ws))) (get_or ws j 0) j k)
    ∙ sym (append_snoc (take j ws) (get_or ws j 0) (zeros (n - length (take (suc j) ws))))
    ∙ ap (λ (l : List ℕ). l ++ zeros (n - length (take (suc j) ws))) (sym (take-suc ws j 0 h))

pub padded_all : (n : ℕ) (ws : List ℕ) (j : ℕ) → length ws ≤ j → padded n (take j ws) ≡ padded n ws
padded_all n ws j h = ap (padded n) (take_all j ws h)
