-- Lines and maps (01): nodes and their words, a map as its root in a column, playing, and isomorphism.
use Rattle.std.specs.Prelude.{◌≡◌, Bool, true, false, ◌&&◌, ℕ, zero, suc, ◌+◌, ◌-◌, ◌*◌, ◌/◌, ◌%◌, eqb, leb, ltb}
use Rattle.rules.specs.declared.Value.{Value}
use Rattle.rules.specs.declared.Value.TheVariants.{Star, One, Zero}
use Rattle.rules.specs.declared.Node.{Node}
use Rattle.rules.specs.declared.Node.TheVariants.{None, Leaf, Branch}
use Rattle.rules.specs.definitions.Limits.{variables_most}
use Rattle.rules.specs.definitions.Layout.{branch_mark, variable_step, end_step, set_words}
use Rattle.rules.specs.definitions.Sets.{Set, none, with}
use Rattle.rules.specs.definitions.Formula.{Assignment}

-- ---- node words: 0 none, 1 star, 2 one, 3 zero, or 2³⁰ + (x−1)·2²⁰ + (a−1)·2¹⁰ + (b−1)
abbrev pub value_word : Value → ℕ
value_word Star = 1
value_word One = 2
value_word Zero = 3

unfoldable pub node_word : Node → ℕ
node_word None = 0
node_word (Leaf v) = value_word v
node_word (Branch x a b) = branch_mark + (x - 1) * variable_step + (a - 1) * end_step + (b - 1)

-- the branch whose word is 2³⁰ + w
abbrev pub branch_at : ℕ → Node
branch_at w = Branch (w / variable_step + 1) (w / end_step % end_step + 1) (w % end_step + 1)

-- the node that a word stands for; None also for a word that is none of star, one, zero and a branch with x in range
unfoldable pub node_of : ℕ → Node
node_of w =
    elim (eqb w 1) [
      | true ↦ Leaf Star
      | false ↦ elim (eqb w 2) [
        | true ↦ Leaf One
        | false ↦ elim (eqb w 3) [
          | true ↦ Leaf Zero
          | false ↦ elim (leb branch_mark w && ltb w (branch_mark + variables_most * variable_step)) [ true ↦ branch_at (w - branch_mark) | false ↦ None ]
        ]
      ]
    ]

-- ---- a column: the nodes of one universal, named by line numbers
abbrev pub Column : Type 0
Column = ℕ → Node

-- ---- playing: the walk from a node, with what it came to
pub data Walk : Type 0 where
  -- the leaf's value, its node, and the variables read on the way
  ended : Value → ℕ → Set → Walk
  -- a reached node is none, or an end of a reached branch is not below its own number
  broken : Walk

abbrev pub noting : ℕ → Walk → Walk
noting x (ended v k s) = ended v k (with s x)
noting x broken = broken

-- from a branch the walk goes to a node of smaller number: at x = 0 to a, else to b
abbrev pub walk_node : Assignment → (ℕ → Walk) → ℕ → Node → Walk
walk_node s follow i None = broken
walk_node s follow i (Leaf v) = ended v i (none set_words)
walk_node s follow i (Branch x a b) =
    elim (ltb a i && ltb b i) [ true ↦ elim (s x) [ true ↦ noting x (follow b) | false ↦ noting x (follow a) ] | false ↦ broken ]

-- the walk from node i, over at most so many nodes
unfoldable pub walk_over : ℕ → Column → Assignment → ℕ → Walk
walk_over zero T s i = broken
walk_over (suc f) T s i = walk_node s (λ k. walk_over f T s k) i (T i)

-- the walk from node i; the numbers fall, so that i + 1 nodes are enough
unfoldable pub walk : Column → Assignment → ℕ → Walk
walk T s i = walk_over (suc i) T s i

-- what a walk plays: its value, and star where it is broken
abbrev pub value_of : Walk → Value
value_of (ended v k s) = v
value_of broken = Star

abbrev pub plays : Column → Assignment → ℕ → Value
plays T s r = value_of (walk T s r)

-- star counts as 0
abbrev pub as_bool : Value → Bool
as_bool Star = false
as_bool One = true
as_bool Zero = false

-- ---- a map is its root and all nodes reached from it
pub data Reached (T : Column) (r : ℕ) : ℕ → Type 0 where
  root : Reached T r r
  low : {i x a b : ℕ} → Reached T r i → T i ≡ Branch x a b → Reached T r a
  high : {i x a b : ℕ} → Reached T r i → T i ≡ Branch x a b → Reached T r b

-- the map is one star leaf
abbrev pub star? : Node → Bool
star? None = false
star? (Leaf Star) = true
star? (Leaf One) = false
star? (Leaf Zero) = false
star? (Branch x a b) = false

-- a node with its ends renamed
abbrev pub renamed : (ℕ → ℕ) → Node → Node
renamed f None = None
renamed f (Leaf v) = Leaf v
renamed f (Branch x a b) = Branch x (f a) (f b)

-- isomorphic: a one-to-one pairing of all nodes of the two maps under which leaves agree
-- and each branch has the same variable and paired ends, end a with end a
pub record Isomorphic (T : Column) (r : ℕ) (U : Column) (t : ℕ) : Type 0 where
  pub to : ℕ → ℕ
  pub from : ℕ → ℕ
  pub into : (i : ℕ) → Reached T r i → Reached U t (to i)
  pub back : (k : ℕ) → Reached U t k → Reached T r (from k)
  pub from_to : (i : ℕ) → Reached T r i → from (to i) ≡ i
  pub to_from : (k : ℕ) → Reached U t k → to (from k) ≡ k
  pub alike : (i : ℕ) → Reached T r i → U (to i) ≡ renamed to (T i)
