-- Comparing two maps with two arrays of partners: the pairing that the arrays stand for.
use Rattle.std.specs.Prelude.{Bool, true, false, List, ℕ, zero, suc, get_or}
use Rattle.rules.specs.definitions.Comparing.{Pairing as Pairs}
use Rattle.rules.specs.definitions.Comparing.Pairing.{clash, pairs}
use Rattle.maps.specs.declared.comparing.Pairing.{Pairing}

-- node k's partner is word k − 1 of the array, 0 for none
unfoldable pub partner : List ℕ → ℕ → ℕ
partner l zero = 0
partner l (suc k) = get_or l k 0

-- the pairing of two arrays, or a clash
abbrev pub held : Bool → Pairing → Pairs
held true p = pairs (partner p.to) (partner p.from)
held false p = clash
