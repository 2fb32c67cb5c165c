-- The calls of a list, each with all that goes in and all that comes out; by the types of inputs, states and replies. Assumes nothing.
use Rattle.std.specs.Prelude.{ℕ, List, [], ◌∷◌}

-- it holds of each of the list
abbrev pub All : {A : Type 0} → (A → Type 0) → List A → Type 0
All Holds [] = Unit {0}
All Holds (a ∷ as') = Holds a × All Holds as'

-- one input put: what is lent, the reply, and what is lent afterwards
pub record Call (I K R : Type 0) : Type 0 where
  pub input : I
  pub kiosk : K
  pub table : List ℕ
  pub journal : List ℕ
  pub reply : R
  pub table_after : List ℕ
  pub journal_after : List ℕ

abbrev pub puts : {I K R : Type 0} → I → K → List ℕ → List ℕ → R → List ℕ → List ℕ → Call I K R
puts i k table journal r table_after journal_after = record {
  input = i;
  kiosk = k;
  table = table;
  journal = journal;
  reply = r;
  table_after = table_after;
  journal_after = journal_after;
}

-- a journal opened: its bytes, the used length, the table before, the reply, the table after
pub record Opening (R : Type 0) : Type 0 where
  pub journal : List ℕ
  pub used : ℕ
  pub table : List ℕ
  pub reply : R
  pub table_after : List ℕ

abbrev pub opens : {R : Type 0} → List ℕ → ℕ → List ℕ → R → List ℕ → Opening R
opens journal used table r table_after = record { journal = journal; used = used; table = table; reply = r; table_after = table_after }

-- a journal created: the powers, the own number, the height, the area before, the reply, the area after
pub record Creating (M : Type 0) : Type 0 where
  pub powers : List ℕ
  pub own : ℕ
  pub height : ℕ
  pub journal : List ℕ
  pub made : M
  pub journal_after : List ℕ

abbrev pub creates : {M : Type 0} → List ℕ → ℕ → ℕ → List ℕ → M → List ℕ → Creating M
creates powers own height journal made journal_after = record {
  powers = powers;
  own = own;
  height = height;
  journal = journal;
  made = made;
  journal_after = journal_after;
}

-- the last whole group shown: the state, what it is shown of, and what is shown
pub record Showing (K J P : Type 0) : Type 0 where
  pub kiosk : K
  pub journal : J
  pub part : P

abbrev pub shows : {K J P : Type 0} → K → J → P → Showing K J P
shows k journal part = record { kiosk = k; journal = journal; part = part }

-- ## Lists of calls

pub record Cases (C O M S : Type 0) : Type 0 where
  pub calls : List C
  pub openings : List O
  pub creatings : List M
  pub showings : List S

-- what holds of each
pub record Each {C O M S : Type 0} (CallSo : C → Type 0) (OpeningSo : O → Type 0) (CreatingSo : M → Type 0) (ShowingSo : S → Type 0) (c : Cases C O M S) : Type 0 where
  pub calls_so : All CallSo c.calls
  pub openings_so : All OpeningSo c.openings
  pub creatings_so : All CreatingSo c.creatings
  pub showings_so : All ShowingSo c.showings
