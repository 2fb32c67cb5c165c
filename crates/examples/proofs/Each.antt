-- A list of cases holds where what is computed of them is what is given: antt compares the two as wholes. Assumes nothing.
use Prim.Native.Nat.{ℕ}
use mathlib.Core.Path.{◌≡◌, ap}
use mathlib.Core.List.{List, [], ◌∷◌, map}
use Rattle.examples.specs.Cases.{All, Call, Opening, Creating, Showing}

first : {W : Type 0} → W → List W → W
first w [] = w
first w (v ∷ vs) = v

rest : {W : Type 0} → List W → List W
rest [] = []
rest (v ∷ vs) = vs

pub all_so : {A W : Type 0} {Holds : A → Type 0} (given computed : A → W) → ((a : A) → given a ≡ computed a → Holds a) →
    (cases : List A) → map given cases ≡ map computed cases → All Holds cases
unfolding first rest
all_so given computed holds [] e = tt
all_so given computed holds (a ∷ as') e = (holds a (ap (first (given a)) e), all_so given computed holds as' (ap rest e))

-- what is given of each kind of call
abbrev pub call_given : {I K R : Type 0} → Call I K R → R × List ℕ × List ℕ
call_given c = (c.reply, c.table_after, c.journal_after)

abbrev pub opening_given : {R : Type 0} → Opening R → R × List ℕ
opening_given c = (c.reply, c.table_after)

abbrev pub creating_given : {M : Type 0} → Creating M → M × List ℕ
creating_given c = (c.made, c.journal_after)

abbrev pub showing_given : {K J P : Type 0} → Showing K J P → P
showing_given c = c.part
