-- What a function that prints into a buffer leaves: a text more, and nothing else changed.
use Rattle.std.specs.Prelude.{◌≡◌, List, ◌++◌, ℕ, ◌+◌, ◌≤◌, length, take, drop}
use Rattle.rules.specs.declared.Node.{Node}
use Rattle.report.specs.declared.text.Out.{Out}
use Rattle.rules.specs.definitions.Bytes.{text}
use Rattle.rules.specs.definitions.Report.{decimal, node_text, line}

-- there is room for so many bytes behind what is put
abbrev pub RoomFor : ℕ → Out → Type 0
RoomFor n o = o.at + n ≤ length o.bytes.now

-- the text, of at most so many bytes, stands behind what was put, and what lies past it in the buffer is as it was
pub record Appended (most : ℕ) (before after : Out) (text : List ℕ) : Type 0 where
  pub within : length text ≤ most
  pub next_is : after.at ≡ before.at + length text
  pub written : take after.at after.bytes.now ≡ take before.at before.bytes.now ++ text
  pub rest : drop after.at after.bytes.now ≡ drop after.at before.bytes.now
  pub same_length : length after.bytes.now ≡ length before.bytes.now
  pub same_buffer : after.bytes.ghost_name ≡ before.bytes.ghost_name

-- the line of node k, which is n
abbrev pub numbered : ℕ → Node → List ℕ
numbered k n = line (decimal k ++ node_text n)

-- the first line of what is accepted
abbrev pub accepted_line : ℕ → List ℕ
accepted_line n = line (text "accepted " ++ decimal n)

-- a map's variable and root
abbrev pub map_head : ℕ → ℕ → List ℕ
map_head u r = line (text "map " ++ (decimal u ++ (text " root " ++ decimal r)))
