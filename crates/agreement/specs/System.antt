-- The market of one height, with journals as files of bytes: kiosks that create, open, put inputs and send; power cuts at any byte;
-- a radio that loses, repeats and reorders, and forges no sender; rule-breakers that send anything. Assumes nothing.
use Rattle.std.specs.Prelude.{ℕ, ◌≤◌, ◌<◌, ◌≡◌, ◌≢◌, ◌⊎◌, true, List, [], ◌∷◌, length, take}
use Rattle.words.specs.Members.{In}
use Rattle.agreement.specs.Weigh.{Scale, Seats, Few}
use Rattle.agreement.specs.Moves.{Out, settled}
use Rattle.agreement.specs.Honest.{Arrived, Honest}

-- ## One kiosk

-- what opening answers: the memory and the used length, refusal 13, or another refusal
pub data Opening (M : Type 0) : Type 0 where
  opened : M → ℕ → Opening M
  no_header : Opening M
  other_refusal : Opening M

-- A kind of kiosk, by its calls. Memory is what it has beside its file: the state and the table. Each call is a relation, since the areas
-- that are lent to it may differ and hold anything past the file
pub record Engine : Type 1 where
  pub Mem : Type 0
  pub Input : Type 0
  -- the message that an input brings, under this sender's number
  pub brings : Input → ℕ → Out → Type 0
  -- creating writes this file
  pub creates : List ℕ → Type 0
  -- opening a file answers this
  pub opens : List ℕ → Opening Mem → Type 0
  -- an input put with this memory and file is accepted, and leaves this memory and this file
  pub puts : Mem → List ℕ → Input → Mem → List ℕ → Type 0
  -- the outputs of a file's whole records
  pub outputs : List ℕ → List Out

-- a kiosk without power has a file; one with power has its memory too, and the file is cut to the used length
pub data Board (M : Type 0) : Type 0 where
  off : List ℕ → Board M
  on : M → List ℕ → Board M

-- What one kiosk can do. `Sees` says which inputs may come to it. A refused call changes nothing, and is no step
pub data Change (e : Engine) (Sees : e.Input → Type 0) (b b' : Board e.Mem) : Type 0 where
  -- "It creates its journal once, again only after 13"; power may go at any byte of the header
  create : (d f : List ℕ) (k : ℕ) → b ≡ off d → e.opens d no_header → e.creates f → b' ≡ off (take k f) → Change e Sees b b'
  -- "and opens exactly its used bytes; after a power cut, all the bytes the cut left"
  wake : (d : List ℕ) (m : e.Mem) (n : ℕ) → b ≡ off d → e.opens d (opened m n) → b' ≡ on m (take n d) → Change e Sees b b'
  -- "puts each input with the state, table and journal that opening or its last call left"
  write : (m m' : e.Mem) (d d' : List ℕ) (x : e.Input) → b ≡ on m d → Sees x → e.puts m d x m' d' → b' ≡ on m' d' → Change e Sees b b'
  -- "a power cut leaves the old used bytes and any first part of" the group
  write_cut :
      (m m' : e.Mem) (d d' : List ℕ) (x : e.Input) (n : ℕ) →
      b ≡ on m d → Sees x → e.puts m d x m' d' → length d ≤ n → b' ≡ off (take n d') → Change e Sees b b'
  -- power goes between two calls
  cut : (m : e.Mem) (d : List ℕ) → b ≡ on m d → b' ≡ off d → Change e Sees b b'

-- ## All kiosks of a height

-- on the radio: an output under its sender's number
pub data Msg : Type 0 where
  by : ℕ → Out → Msg

module _ (ps : Scale) (keeps : Seats) (engine : ℕ → Engine) where
  -- the boards mean something at rule-keeping seats alone
  pub record World : Type 0 where
    pub board : (i : ℕ) → Board (engine i).Mem
    pub air : List Msg

  -- "what arrives under its number it sent so": any input may come, and again, or never; but what it brings under a rule-keeping number,
  -- votes and proposals alike, this kiosk sent. One sheet a height needs it of votes alone
  abbrev pub Sees : List Msg → (i : ℕ) → (engine i).Input → Type 0
  Sees air i x = (j : ℕ) (o : Out) → (engine i).brings x j o → j < ps.kiosks → keeps j ≡ true → In (by j o) air

  pub data Step (w w' : World) : Type 0 where
    change :
        (i : ℕ) →
        i < ps.kiosks →
        keeps i ≡ true →
        Change (engine i) (Sees w.air i) (w.board i) (w'.board i) →
        ((j : ℕ) → j ≢ i → w'.board j ≡ w.board j) →
        w'.air ≡ w.air →
        Step w w'
    -- "It sends only outputs of its whole records", now or again
    send :
        (i : ℕ) (m : (engine i).Mem) (d : List ℕ) (o : Out) →
        i < ps.kiosks →
        keeps i ≡ true →
        w.board i ≡ on m d →
        In o ((engine i).outputs d) →
        ((j : ℕ) → w'.board j ≡ w.board j) →
        w'.air ≡ by i o ∷ w.air →
        Step w w'

  -- what steps lead to, from kiosks without a journal and nothing on the air
  pub data Reach (S : World → World → Type 0) : World → Type 0 where
    begin : {w : World} → ((i : ℕ) → w.board i ≡ off []) → w.air ≡ [] → Reach S w
    next : {w w' : World} → Reach S w → S w w' → Reach S w'

  -- a kiosk put this out: it is an output of the whole records that its file holds, or that opening keeps of it
  pub data PutOut (i : ℕ) (w : World) (o : Out) : Type 0 where
    awake : (m : (engine i).Mem) (d : List ℕ) → w.board i ≡ on m d → In o ((engine i).outputs d) → PutOut i w o
    asleep : (d : List ℕ) (m : (engine i).Mem) (n : ℕ) → w.board i ≡ off d → (engine i).opens d (opened m n) → In o ((engine i).outputs (take n d)) → PutOut i w o

  -- no two rule-keeping kiosks settle different sheets
  abbrev pub OneSheetOut : World → Type 0
  OneSheetOut w =
      (i j r s u v : ℕ) →
      i < ps.kiosks →
      keeps i ≡ true →
      j < ps.kiosks →
      keeps j ≡ true →
      PutOut i w (settled r u) →
      PutOut j w (settled s v) →
      u ≡ v

-- ## What a kind of kiosk owes, and the code's promises give

-- Memory and file go by a history of accepted calls, whose outputs are an honest kiosk's
module _ (e : Engine) where
  pub record Lawful (ps : Scale) (own : ℕ) : Type 1 where
    pub History : Type 0
    pub memory : History → e.Mem
    pub file : History → List ℕ
    pub outs : History → List Out
    pub arrived : History → Arrived
    pub honest : (h : History) → Honest ps own (arrived h) (outs h)
    pub spoken : (h : History) → e.outputs (file h) ≡ outs h
    -- the files that a power cut can leave: of the header a first part; after a history, a first part of one more group
    pub Unmade : List ℕ → Type 0
    pub Left : History → List ℕ → Type 0
    pub unmade_opens : (d : List ℕ) → Unmade d → (o : Opening e.Mem) → e.opens d o → o ≡ no_header
    pub left_opens : (h : History) (d : List ℕ) → Left h d → (o : Opening e.Mem) → e.opens d o → (n : ℕ) × (o ≡ opened (memory h) n) × (take n d ≡ file h)
    pub left_whole : (h : History) → Left h (file h)
    -- creating
    pub none : Unmade []
    pub start : History
    pub unheard : (j : ℕ) (o : Out) → arrived start j o → ⊥
    pub create_cut : (f : List ℕ) (k : ℕ) → e.creates f → Unmade (take k f) ⊎ Left start (take k f)
    -- one more call
    pub more : (h : History) (x : e.Input) (m : e.Mem) (d : List ℕ) → e.puts (memory h) (file h) x m d → History
    pub more_memory : (h : History) (x : e.Input) (m : e.Mem) (d : List ℕ) (p : e.puts (memory h) (file h) x m d) → m ≡ memory (more h x m d p)
    pub more_file : (h : History) (x : e.Input) (m : e.Mem) (d : List ℕ) (p : e.puts (memory h) (file h) x m d) → d ≡ file (more h x m d p)
    pub more_outs : (h : History) (x : e.Input) (m : e.Mem) (d : List ℕ) (p : e.puts (memory h) (file h) x m d) (o : Out) → In o (outs h) → In o (outs (more h x m d p))
    pub more_arrived : (h : History) (x : e.Input) (m : e.Mem) (d : List ℕ) (p : e.puts (memory h) (file h) x m d) (j : ℕ) (o : Out) →
        arrived (more h x m d p) j o → arrived h j o ⊎ e.brings x j o
    pub more_cut : (h : History) (x : e.Input) (m : e.Mem) (d : List ℕ) (p : e.puts (memory h) (file h) x m d) (n : ℕ) →
        length (file h) ≤ n → Left h (take n d) ⊎ Left (more h x m d p) (take n d)

-- demand 3: the roll is shared, rule-breakers hold less than a third, and each rule-keeping seat has a lawful kiosk
pub record Shared (ps : Scale) (keeps : Seats) (engine : ℕ → Engine) : Type 1 where
  pub few : Few ps keeps
  pub lawful : (i : ℕ) → i < ps.kiosks → keeps i ≡ true → Lawful (engine i) ps i

-- no two settle different sheets
abbrev pub Demand3Sheets : Type 1
Demand3Sheets =
    (ps : Scale) (keeps : Seats) (engine : ℕ → Engine) →
    Shared ps keeps engine →
    (w : World ps keeps engine) →
    Reach ps keeps engine (Step ps keeps engine) w →
    OneSheetOut ps keeps engine w

-- ## What holds of each rule-keeping kiosk in every world that is reached

module _ {e : Engine} {ps : Scale} {own : ℕ} (law : Lawful e ps own) where
  -- the board goes by this history: it has no whole header yet; or a file that a cut can leave; or memory and file
  pub data Holds (b : Board e.Mem) (h : law.History) : Type 0 where
    unmade : (d : List ℕ) → b ≡ off d → law.Unmade d → h ≡ law.start → Holds b h
    left : (d : List ℕ) → b ≡ off d → law.Left h d → Holds b h
    powered : b ≡ on (law.memory h) (law.file h) → Holds b h

  pub record Sound (keeps : Seats) (b : Board e.Mem) (air : List Msg) : Type 0 where
    pub history : law.History
    pub holds : Holds b history
    -- what it sent it put out
    pub sent : (o : Out) → In (by own o) air → In o (law.outs history)
    -- what it took from a rule-keeping kiosk was sent
    pub took : (j : ℕ) (o : Out) → law.arrived history j o → j < ps.kiosks → keeps j ≡ true → In (by j o) air

abbrev pub Demand3Boards : Type 1
Demand3Boards =
    (ps : Scale) (keeps : Seats) (engine : ℕ → Engine) (s : Shared ps keeps engine) (w : World ps keeps engine) →
    Reach ps keeps engine (Step ps keeps engine) w →
    (i : ℕ) (hi : i < ps.kiosks) (ki : keeps i ≡ true) →
    Sound (s.lawful i hi ki) keeps (w.board i) w.air
