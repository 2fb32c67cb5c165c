-- Demand 3 over journals of bytes, for any kind of kiosk that meets `Lawful`.
-- Assumes nothing.
use Prim.Native.Nat.{ℕ, ◌≤◌, ◌<◌}
use mathlib.Core.Path.{◌≡◌, refl, sym, subst, ap, ap₂, ◌∙◌}
use mathlib.Core.Logic.{◌≢◌, ◌⊎◌, inl, inr, ⊎_elim}
use mathlib.Core.Bool.{Bool, true, false, ◌&&◌, false≢true}
use mathlib.Core.List.{List, [], ◌∷◌}
use native.Mathlib.Decide.{ℕ_discrete}
use lib.Dec.{ltb}
use lib.ListN.{length, take}
use borrow.Author.Tests.{ltb-true, lt-ltb}
use Rattle.words.specs.Members.{In}
use Rattle.words.proofs.Choice.{and_left, and_right}
use Rattle.agreement.specs.Weigh.{Scale, Seats}
use Rattle.agreement.specs.Moves.{Out, settled}
use Rattle.agreement.specs.Honest.{Arrived, Honest}
use Rattle.agreement.specs.Market.{Unforged, Market}
use Rattle.agreement.specs.System.{opened, no_header, Engine, Board, off, on, Msg, by, Change, create, wake, write, write_cut, cut, World, Sees, Step, change, send, Reach, begin, next, PutOut, awake, asleep, Lawful, Shared, Holds, unmade, left, powered, Sound, Demand3Boards, Demand3Sheets}
use Rattle.agreement.proofs.Market.{one_sheet}

-- ## One kiosk

-- what may come may come where more may
pub change_wider : {e : Engine} {May Sees : e.Input → Type 0} → ((x : e.Input) → May x → Sees x) → {b b' : Board e.Mem} → Change e May b b' → Change e Sees b b'
change_wider f (create d g k eb op cr eb') = create d g k eb op cr eb'
change_wider f (wake d m n eb op eb') = wake d m n eb op eb'
change_wider f (write m m' d d' x eb may p eb') = write m m' d d' x eb (f x may) p eb'
change_wider f (write_cut m m' d d' x n eb may p hn eb') = write_cut m m' d d' x n eb (f x may) p hn eb'
change_wider f (cut m d eb eb') = cut m d eb eb'

module _ {e : Engine} {ps : Scale} {own : ℕ} (law : Lawful e ps own) where
  module _ {b : Board e.Mem} {h : law.History} (q : Holds law b h) where
    -- with power it has the memory and the file of its history
    pub on_so : {m : e.Mem} {d : List ℕ} → b ≡ on m d → (m ≡ law.memory h) × (d ≡ law.file h)
    on_so {m} {d} eb = go q
      where
        go : Holds law b h → (m ≡ law.memory h) × (d ≡ law.file h)
        go (unmade d' e' u eh) = absurd (cc)
        go (left d' e' l) = absurd (cc)
        go (powered e') = (cc, cc)

    -- without power it has a file that a cut can leave
    pub off_so : {d : List ℕ} → b ≡ off d → (law.Unmade d × (h ≡ law.start)) ⊎ law.Left h d
    off_so {d} eb = go q
      where
        go : Holds law b h → (law.Unmade d × (h ≡ law.start)) ⊎ law.Left h d
        go (unmade d' e' u eh) =
            let ed : d' ≡ d = cc in
            inl (subst law.Unmade ed u, eh)
        go (left d' e' l) =
            let ed : d' ≡ d = cc in
            inr (subst (law.Left h) ed l)
        go (powered e') = absurd (cc)

    -- and opening gives the memory and the file of its history
    pub opened_so : {d : List ℕ} {m : e.Mem} {n : ℕ} → b ≡ off d → e.opens d (opened m n) → (m ≡ law.memory h) × (take n d ≡ law.file h)
    opened_so {d} {m} {n} eb op =
        ⊎_elim
        (λ u.
        let eo : opened m n ≡ no_header = law.unmade_opens d u.0 (opened m n) op in
        absurd (cc))
        (λ l.
        let o = law.left_opens h d l (opened m n) op in
        let eo : opened m n ≡ opened (law.memory h) o.0 = o.1 in
        let en : o.0 ≡ n = cc in
        (cc, subst (λ (u : ℕ). take u d ≡ law.file h) en o.2))
        (off_so eb)

    create_holds : {b' : Board e.Mem} {d f : List ℕ} (k : ℕ) → b ≡ off d → e.opens d no_header → e.creates f → b' ≡ off (take k f) → Holds law b' h
    create_holds {b'} {d} {f} k eb op cr eb' =
        ⊎_elim
        (λ u. ⊎_elim (λ c. unmade _ eb' c u.1) (λ c. left _ eb' (subst (λ (g : law.History). law.Left g (take k f)) (sym u.1) c)) (law.create_cut f k cr))
        (λ l.
        let o = law.left_opens h d l no_header op in
        let eo : no_header ≡ opened (law.memory h) o.0 = o.1 in
        absurd (cc))
        (off_so eb)

    wake_holds : {b' : Board e.Mem} {d : List ℕ} {m : e.Mem} {n : ℕ} → b ≡ off d → e.opens d (opened m n) → b' ≡ on m (take n d) → Holds law b' h
    wake_holds eb op eb' =
        let o = opened_so eb op in
        powered (eb' ∙ ap₂ {C = Board e.Mem} on o.0 o.1)

  -- what the file of a history holds, the history put out
  file_outs : {h : law.History} {d : List ℕ} → d ≡ law.file h → e.outputs d ≡ law.outs h
  file_outs {h} ed = ap e.outputs ed ∙ law.spoken h

  module _ {keeps : Seats} {b : Board e.Mem} {air : List Msg} (q : Sound law keeps b air) where
    abbrev same : {b' : Board e.Mem} → Holds law b' q.history → Sound law keeps b' air
    same h = record { history = q.history; holds = h; sent = q.sent; took = q.took }

    module _ (x : e.Input) (m : e.Mem) (d : List ℕ) (sees : Sees ps keeps (λ i. e) air own x) (p : e.puts (law.memory q.history) (law.file q.history) x m d) where
      -- one more call
      abbrev longer : {b' : Board e.Mem} → Holds law b' (law.more q.history x m d p) → Sound law keeps b' air
      longer h =
          record {
            history = law.more q.history x m d p;
            holds = h;
            sent = λ o a. law.more_outs q.history x m d p o (q.sent o a);
            took = λ j o a hj kj. ⊎_elim (λ old. q.took j o old hj kj) (λ new. sees j o new hj kj) (law.more_arrived q.history x m d p j o a);
          }

      written : {b' : Board e.Mem} → b' ≡ on m d → Holds law b' (law.more q.history x m d p)
      written eb' = powered (eb' ∙ ap₂ {C = Board e.Mem} on (law.more_memory q.history x m d p) (law.more_file q.history x m d p))

    -- an input that is put: what holds of the history with that call
    pub write_keeps : (Q : law.History → Type 0) {b' : Board e.Mem} (m m' : e.Mem) (d d' : List ℕ) (x : e.Input) → b ≡ on m d
        → Sees ps keeps (λ i. e) air own x → e.puts m d x m' d' → b' ≡ on m' d'
        → ((p : e.puts (law.memory q.history) (law.file q.history) x m' d') → Q (law.more q.history x m' d' p))
        → (q' : Sound law keeps b' air) × Q q'.history
    write_keeps Q m m' d d' x eb sees p eb' new =
        let v = on_so q.holds eb in
        let p' : e.puts (law.memory q.history) (law.file q.history) x m' d' = rw (v.0, v.1) at p in
        (longer x m' d' sees p' (written x m' d' sees p' eb'), new p')

    -- whatever the kiosk does: what holds of its history, and of that with one further call that may come, still holds
    pub change_keeps : (Q : law.History → Type 0) (May : e.Input → Type 0) → ((x : e.Input) → May x → Sees ps keeps (λ i. e) air own x)
        → ((x : e.Input) (m : e.Mem) (d : List ℕ) (p : e.puts (law.memory q.history) (law.file q.history) x m d) → May x → Q (law.more q.history x m d p))
        → Q q.history → {b' : Board e.Mem} → Change e May b b' → (q' : Sound law keeps b' air) × Q q'.history
    change_keeps Q May seen new old (create d f k eb op cr eb') = (same (create_holds q.holds k eb op cr eb'), old)
    change_keeps Q May seen new old (wake d m n eb op eb') = (same (wake_holds q.holds eb op eb'), old)
    change_keeps Q May seen new old (write m m' d d' x eb may p eb') = write_keeps Q m m' d d' x eb (seen x may) p eb' (λ p'. new x m' d' p' may)
    change_keeps Q May seen new old (write_cut m m' d d' x n eb may p hn eb') =
        let v = on_so q.holds eb in
        let p' : e.puts (law.memory q.history) (law.file q.history) x m' d' = rw (v.0, v.1) at p in
        ⊎_elim
        (λ l. (same (left _ eb' l), old))
        (λ l. (longer x m' d' (seen x may) p' (left _ eb' l), new x m' d' p' may))
        (law.more_cut q.history x m' d' p' n (subst (λ (u : List ℕ). length u ≤ n) v.1 hn))
    change_keeps Q May seen new old (cut m d eb eb') =
        (same (left _ (eb' ∙ ap {B = Board e.Mem} off (on_so q.holds eb).1) (law.left_whole q.history)), old)

    -- the radio holds more, none of it this kiosk's
    sound_heard : (j : ℕ) (o : Out) → j ≢ own → Sound law keeps b (by j o ∷ air)
    sound_heard j o n =
        record {
          history = q.history;
          holds = q.holds;
          sent = λ o' h. ⊎_elim (λ ex. absurd (n (cc))) (λ a. q.sent o' a) h;
          took = λ j' o' a hj kj. inr (q.took j' o' a hj kj);
        }

    -- or its own: an output of a whole record
    sound_sent : (m : e.Mem) (d : List ℕ) (o : Out) → b ≡ on m d → In o (e.outputs d) → Sound law keeps b (by own o ∷ air)
    sound_sent m d o eb ho =
        record {
          history = q.history;
          holds = q.holds;
          sent = λ o' h.
              ⊎_elim
              (λ ex.
              let eo : o ≡ o' = cc in
              rw (eo, file_outs (on_so q.holds eb).1) at ho)
              (λ a. q.sent o' a)
              h;
          took = λ j o' a hj kj. inr (q.took j o' a hj kj);
        }

  sound_begin : {keeps : Seats} (b : Board e.Mem) → b ≡ off [] → Sound law keeps b []
  sound_begin b eb =
      record {
        history = law.start;
        holds = unmade [] eb law.none refl;
        sent = λ o h. absurd h;
        took = λ j o a hj kj. absurd (law.unheard j o a);
      }

module _ (ps : Scale) (keeps : Seats) (engine : ℕ → Engine) (w : World ps keeps engine) (i : ℕ) (law : Lawful (engine i) ps i) (q : Sound law keeps (w.board i) w.air) where
  -- what it put out is among the outputs of its history
  pub put_out_so : (o : Out) → PutOut ps keeps engine i w o → In o (law.outs q.history)
  put_out_so o (awake m d eb h) = rw (file_outs law (on_so law q.holds eb).1) at h
  put_out_so o (asleep d m n eb op h) = rw (file_outs law (opened_so law q.holds eb op).1) at h

  -- with power it put out all of them
  pub out_put : (m : (engine i).Mem) (d : List ℕ) → w.board i ≡ on m d → (o : Out) → In o (law.outs q.history) → PutOut ps keeps engine i w o
  out_put m d eb o h = awake m d eb (rw (file_outs law (on_so law q.holds eb).1) h)

-- ## All kiosks

module _ (ps : Scale) (keeps : Seats) (engine : ℕ → Engine) (s : Shared ps keeps engine) where
  -- a statement about the history of each rule-keeping kiosk
  abbrev pub OfEach : Type 1
  OfEach = (i : ℕ) (hi : i < ps.kiosks) (ki : keeps i ≡ true) → (s.lawful i hi ki).History → Type 0

  abbrev pub KeepingAt : OfEach → World ps keeps engine → ℕ → Type 0
  KeepingAt P w i = (hi : i < ps.kiosks) (ki : keeps i ≡ true) → (q : Sound (s.lawful i hi ki) keeps (w.board i) w.air) × P i hi ki q.history

  -- each goes by a history, of which P holds
  abbrev pub Keeping : OfEach → World ps keeps engine → Type 0
  Keeping P w = (i : ℕ) → KeepingAt P w i

  -- one kiosk changes; of the others what held holds
  pub change_all : (P Q : OfEach) (w w' : World ps keeps engine) (j : ℕ)
      → (KeepingAt P w j → (hj : j < ps.kiosks) (kj : keeps j ≡ true) → (q : Sound (s.lawful j hj kj) keeps (w'.board j) w.air) × Q j hj kj q.history)
      → ((i : ℕ) → i ≢ j → (hi : i < ps.kiosks) (ki : keeps i ≡ true) (h : (s.lawful i hi ki).History) → P i hi ki h → Q i hi ki h)
      → ((i : ℕ) → i ≢ j → w'.board i ≡ w.board i) → w'.air ≡ w.air → Keeping P w → Keeping Q w'
  change_all P Q w w' j one others rest ea k i = go (ℕ_discrete j i)
    where
      go : Dec (j ≡ i) → KeepingAt Q w' i
      go (yes e) = subst (KeepingAt Q w') e (λ hj kj. rw ea (one (k j) hj kj))
      go (no n) = λ hi ki.
          let off : i ≢ j = λ e. n (sym e) in
          let x = k i hi ki in
          rw (rest i off, ea) (x.0, others i off hi ki x.0.history x.1)

  -- a message is sent
  pub send_all : (P : OfEach) (w w' : World ps keeps engine) (j : ℕ) (m : (engine j).Mem) (d : List ℕ) (o : Out) → w.board j ≡ on m d → In o ((engine j).outputs d)
      → ((i : ℕ) → w'.board i ≡ w.board i) → w'.air ≡ by j o ∷ w.air → Keeping P w → Keeping P w'
  unfolding sound_sent sound_heard
  send_all P w w' j m d o eb ho rest ea k i = go (ℕ_discrete j i)
    where
      go : Dec (j ≡ i) → KeepingAt P w' i
      go (yes e) = subst (KeepingAt P w') e (λ hj kj. let x = k j hj kj in rw (rest j, ea) (sound_sent (s.lawful j hj kj) x.0 m d o eb ho, x.1))
      go (no n) = λ hi ki. let x = k i hi ki in rw (rest i, ea) (sound_heard (s.lawful i hi ki) x.0 j o n, x.1)

  -- what further calls keep, steps keep
  pub step_all : (P : OfEach)
      → ((i : ℕ) (hi : i < ps.kiosks) (ki : keeps i ≡ true) (h : (s.lawful i hi ki).History) (x : (engine i).Input) (m : (engine i).Mem) (d : List ℕ)
      (p : (engine i).puts ((s.lawful i hi ki).memory h) ((s.lawful i hi ki).file h) x m d) → P i hi ki h → P i hi ki ((s.lawful i hi ki).more h x m d p))
      → (w w' : World ps keeps engine) → Step ps keeps engine w w' → Keeping P w → Keeping P w'
  step_all P more w w' (change j hj kj ch rest ea) =
      change_all P P w w' j
      (λ k hj kj.
      let x = k hj kj in
      change_keeps (s.lawful j hj kj) x.0 (P j hj kj) (Sees ps keeps engine w.air j) (λ y sees. sees) (λ y m d p may. more j hj kj x.0.history y m d p x.1) x.1 ch)
      (λ i off hi ki h p. p) rest ea
  step_all P more w w' (send j m d o hj kj eb ho rest ea) = send_all P w w' j m d o eb ho rest ea

  abbrev SoundAt : World ps keeps engine → ℕ → Type 0
  SoundAt w i = (hi : i < ps.kiosks) (ki : keeps i ≡ true) → Sound (s.lawful i hi ki) keeps (w.board i) w.air

  abbrev All : World ps keeps engine → Type 0
  All w = (i : ℕ) → SoundAt w i

  abbrev Anything : OfEach
  Anything i hi ki h = Unit {0}

  all_reach : {w : World ps keeps engine} → Reach ps keeps engine (Step ps keeps engine) w → Keeping Anything w
  all_reach (begin eb ea) = λ i hi ki. (rw ea (sound_begin (s.lawful i hi ki) _ (eb i)), tt)
  all_reach (next {w} {w'} r st) = step_all Anything (λ i hi ki h x m d p t. tt) w w' st (all_reach r)

pub demand3_boards : Demand3Boards
demand3_boards ps keeps engine s w r i hi ki = (all_reach ps keeps engine s r i hi ki).0

-- ## One sheet

-- a list that a test gives
pick : (b : Bool) → (b ≡ true → List Out) → List Out
pick true f = f refl
pick false f = []

picked {ℓ} : (P : List Out → Type ℓ) (b : Bool) (f : b ≡ true → List Out) → b ≡ true → ((t : b ≡ true) → P (f t)) → P (pick b f)
unfolding pick
picked P true f t g = g refl
picked P false f t g = absurd (false≢true t)

module _ (ps : Scale) (keeps : Seats) (engine : ℕ → Engine) (s : Shared ps keeps engine) (w : World ps keeps engine) (all : All ps keeps engine s w) where
  abbrev outs_at : (i : ℕ) → i < ps.kiosks → keeps i ≡ true → List Out
  outs_at i hi ki = (s.lawful i hi ki).outs (all i hi ki).history

  module _ (i : ℕ) where
    abbrev on_roll : Bool
    on_roll = ltb i ps.kiosks

    abbrev outs_if : on_roll && keeps i ≡ true → List Out
    outs_if t = outs_at i (ltb-true i ps.kiosks (and_left on_roll (keeps i) t)) (and_right on_roll (keeps i) t)

    -- the outputs of its history; none where it breaks the rules
    outs : List Out
    outs = pick (on_roll && keeps i) outs_if

    outs_so {ℓ} : (P : List Out → Type ℓ) → i < ps.kiosks → keeps i ≡ true → ((hi : i < ps.kiosks) (ki : keeps i ≡ true) → P (outs_at i hi ki)) → P outs
    unfolding outs
    outs_so P hi ki f =
        picked P (on_roll && keeps i) outs_if (rw (lt-ltb i ps.kiosks hi, ki) refl)
        (λ t. f (ltb-true i ps.kiosks (and_left on_roll (keeps i) t)) (and_right on_roll (keeps i) t))

  market : Market ps keeps outs
  market = record {
    few = s.few;
    member = λ i hi ki.
        let m = outs_so i (λ os. (A : Arrived) × Honest ps i A os × Unforged ps keeps outs A) hi ki (λ hi ki. (
          (s.lawful i hi ki).arrived (all i hi ki).history,
          (s.lawful i hi ki).honest (all i hi ki).history,
          λ j hj kj o a. outs_so j (In o) hj kj (λ hj kj. (all j hj kj).sent o ((all i hi ki).took j o a hj kj)),
        )) in
        record { arrived = m.0; honest = m.1; net = m.2 };
  }

  -- so no two of them settle different sheets
  pub one_sheet_told : (i j r r' u v : ℕ) → i < ps.kiosks → keeps i ≡ true → j < ps.kiosks → keeps j ≡ true
      → ((hi : i < ps.kiosks) (ki : keeps i ≡ true) → In (settled r u) (outs_at i hi ki)) → ((hj : j < ps.kiosks) (kj : keeps j ≡ true) → In (settled r' v) (outs_at j hj kj)) → u ≡ v
  one_sheet_told i j r r' u v hi ki hj kj a b = one_sheet ps keeps outs market i j r r' u v hi ki hj kj (outs_so i (In (settled r u)) hi ki a) (outs_so j (In (settled r' v)) hj kj b)

pub demand3_sheets : Demand3Sheets
demand3_sheets ps keeps engine s w reach i j r r' u v hi ki hj kj p q =
    let all = demand3_boards ps keeps engine s w reach in
    one_sheet_told ps keeps engine s w all i j r r' u v hi ki hj kj
    (λ hi ki. put_out_so ps keeps engine w i (s.lawful i hi ki) (all i hi ki) (settled r u) p)
    (λ hj kj. put_out_so ps keeps engine w j (s.lawful j hj kj) (all j hj kj) (settled r' v) q)
