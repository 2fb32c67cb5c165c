-- What an answer's text holds. Assumes nothing.
use Rattle.std.specs.Prelude.{ℕ, List, take}
use Rattle.saying.specs.declared.text.Text.{Text}

abbrev pub text_of : Text → List ℕ
text_of t = take t.size t.bytes
