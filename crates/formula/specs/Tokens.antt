-- The tokens that are left of a text (01, Formula text).
use Rattle.std.specs.Prelude.{List, false}
use Rattle.rules.specs.definitions.Text as text
use Rattle.rules.specs.definitions.Text.{Token}
use Rattle.formula.specs.declared.words.Tokens.{Tokens}

abbrev pub left : Tokens → List Token
left t = text.tokens false t.bytes.now t.at
