-- Values told to a caller in C, who lends a row for them.
--   laid values row    the row after the values were laid into it, from its start and as far as there is room
use Rattle.std.specs.Prelude.{List, [], ◌∷◌}

unfoldable pub laid : {A : Type 0} → List A → List A → List A
laid [] row = row
laid (v ∷ values) [] = []
laid (v ∷ values) (x ∷ row) = v ∷ laid values row
