-- The last line's maps, as the prefix, node and root tables say them.
use Rattle.std.specs.Prelude.{true, false, List, [], ◌∷◌, ◌++◌, ℕ, suc, ◌+◌, ◌-◌, ◌*◌, ◌≤◌, ◌<◌, eqb, ltb, length, get_or, take}
use Rattle.rules.specs.declared.Reply.{Reply}
use Rattle.rules.specs.definitions.Layout.{universal_mark}
use Rattle.rules.specs.definitions.Limits.{universals_most, lines_most}
use Rattle.rules.specs.definitions.Services.{table_column}
use Rattle.rules.specs.definitions.Report.{map_lines, refused_line}
use Rattle.report.specs.Written.{accepted_line}

-- line n's root for the universal at offset j
abbrev pub last_root : List ℕ → ℕ → ℕ → ℕ
last_root roots n j = get_or roots ((n - 1) * universals_most + j) 0

-- the map of the universal at offset j, whose word in the prefix table is w
abbrev pub word_map : List ℕ → List ℕ → ℕ → ℕ → ℕ → List ℕ
word_map nodes roots n j w = map_lines (table_column nodes (j + 1)) (last_root roots n j) (w - universal_mark)

-- the maps of the universals among these words of the prefix table, the first of them at offset j
unfoldable pub word_maps : List ℕ → List ℕ → ℕ → List ℕ → ℕ → List ℕ
word_maps nodes roots n [] j = []
word_maps nodes roots n (w ∷ ws) j =
    elim (ltb universal_mark w) [ true ↦ word_map nodes roots n j w ++ word_maps nodes roots n ws (suc j) | false ↦ word_maps nodes roots n ws j ]

-- a universal's offset and root are in range
abbrev pub InTable : List ℕ → ℕ → ℕ → Type 0
InTable roots n j = (j < universals_most) × ((1 ≤ last_root roots n j) × (last_root roots n j ≤ lines_most))

-- the same of each universal among the words
unfoldable pub Ready : List ℕ → ℕ → List ℕ → ℕ → Type 0
Ready roots n [] j = Unit {0}
Ready roots n (w ∷ ws) j = elim (ltb universal_mark w) [ true ↦ InTable roots n j × Ready roots n ws (suc j) | false ↦ Ready roots n ws j ]

-- the tables of an accepted proof of n lines, as far as its maps are printed
pub record Printable (prefix nodes roots : List ℕ) (n : ℕ) : Type 0 where
  pub some : 1 ≤ n
  pub most : n ≤ lines_most
  pub prefix_long : 64 ≤ length prefix
  pub nodes_long : 16384 ≤ length nodes
  pub roots_long : 16384 ≤ length roots
  pub ready : Ready roots n (take 64 prefix) 0

-- the first line of what is accepted, and the maps
abbrev pub accepted_tables : List ℕ → List ℕ → List ℕ → ℕ → List ℕ
accepted_tables prefix nodes roots n = accepted_line n ++ word_maps nodes roots n (take 64 prefix) 0

-- what is printed for a reply and the tables that it leaves
unfoldable pub reply_text : Reply → List ℕ → List ℕ → List ℕ → List ℕ
reply_text r prefix nodes roots =
    elim (eqb r.number 0) [ true ↦ accepted_tables prefix nodes roots r.lines | false ↦ refused_line r.number r.place r.variable ]
