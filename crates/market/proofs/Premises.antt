-- What the premises of demand 3 are for: by one further kind of step, or with rule-breakers that hold more, two rule-keeping kiosks
-- settle different sheets, though all other premises hold. Assumes nothing.
use Prim.Native.Nat.{ℕ, ◌+◌, ◌*◌, ◌^◌, ◌≤◌, ◌<◌}
use mathlib.Core.Path.{◌≡◌, refl, ap, sym}
use mathlib.Core.Logic.{◌≢◌, ◌⊎◌, inl, inr}
use mathlib.Core.List.{List, [], ◌∷◌, ◌++◌}
use mathlib.Core.Bool.{true, not}
use native.Mathlib.Omega.{arith}
use borrow.Author.Tests.{ne_eqb, ltb-true}
use lib.ListN.{length, take}
use Rattle.words.specs.Choice.{the_choices}
use Rattle.words.specs.Members.{In}
use Rattle.roll.specs.Weighing.{power_of, total_of, roll_fits, the_weighing}
use Rattle.rules.specs.declared.Input.{Input}
use Rattle.journal.specs.Layout.{header_length, the_layout}
use Rattle.history.specs.Histories.{Past, beginning, leaves, records, sent_in}
use Rattle.agreement.specs.Weigh.{Seats}
use Rattle.agreement.specs.Moves.{Out, proposal, prevote, precommit, settled, other}
use Rattle.agreement.specs.System.{Board, opened, no_header, off, on, by, next}
use Rattle.agreement.specs.System as system
use Rattle.market.specs.Seat.{acts}
use Rattle.market.specs.Kiosks.{MayCreate, MayOpen, MayPut, kiosk_of}
use Rattle.market.specs.Demand3.{roll_at, scale, World, Step, PutOut, OneSheetSent}
use Rattle.market.proofs.Schedule.{file_after, memory_after, kiosk_after, Setting, ReachedWith, Keeper, Story, the_stories, creates, may_create, none_there, untold, first_part, story_header, story_opens, story_puts, story_outputs, MayCome, may_none, may_own, may_sent, with_board, with_word, sees_first, begins, powered, called, rests, wakes, spoke, story_out}
use Rattle.market.proofs.Examples.{input, starts, proposes, precommits, offered, two, all, two_fits, tall, two_few, two_by, two_creates, seat_0, seat_1, zero_five, story, but_two, honest_at, tells}

-- ## The statement with other steps

abbrev pub Steps : Type 1
Steps = (powers : List ℕ) (height : ℕ) (keeps : Seats) → World powers height keeps → World powers height keeps → Type 0

abbrev pub ReachedBy : (S : Steps) (powers : List ℕ) (height : ℕ) (keeps : Seats) → World powers height keeps → Type 0
ReachedBy S powers height keeps w = ReachedWith powers height keeps (S powers height keeps) w

-- no two rule-keeping kiosks settle different sheets, by these steps, where B and T are so
abbrev pub OneSheetBy : (ℕ → ℕ → Type 0) → Steps → Type 0
OneSheetBy Few S =
    (powers : List ℕ) (height : ℕ) (keeps : Seats) →
    roll_fits (roll_at powers height 0) ≡ true →
    height < 2 ^ 32 →
    Few (power_of (roll_at powers height 0) (λ i. not (keeps i))) (total_of (roll_at powers height 0)) →
    (w : World powers height keeps) →
    ReachedBy S powers height keeps w →
    (i j r s u v : ℕ) → i < length powers → keeps i ≡ true → j < length powers → keeps j ≡ true →
    PutOut powers height keeps w i (settled r u) → PutOut powers height keeps w j (settled s v) →
    u ≡ v

abbrev pub UnderAThird : ℕ → ℕ → Type 0
UnderAThird b t = 3 * b < t

-- with the honest step and 3B < T it is demand 3's
pub the_statement : ◌≡◌ {A = Type 0} (OneSheetBy UnderAThird Step) OneSheetSent
the_statement = refl

-- what refutes it: a market in which two rule-keeping seats put out two sheets
pub record TwoSheets (Few : ℕ → ℕ → Type 0) (S : Steps) : Type 0 where
  pub powers : List ℕ
  pub height : ℕ
  pub keeps : Seats
  pub fits : roll_fits (roll_at powers height 0) ≡ true
  pub tall : height < 2 ^ 32
  pub few : Few (power_of (roll_at powers height 0) (λ i. not (keeps i))) (total_of (roll_at powers height 0))
  pub w : World powers height keeps
  pub reached : ReachedBy S powers height keeps w
  pub i : ℕ
  pub j : ℕ
  pub keeper_i : Keeper powers keeps i
  pub keeper_j : Keeper powers keeps j
  pub r : ℕ
  pub s : ℕ
  pub u : ℕ
  pub v : ℕ
  pub one_sheet : PutOut powers height keeps w i (settled r u)
  pub other_sheet : PutOut powers height keeps w j (settled s v)
  pub two_seats : i ≢ j
  pub two_names : u ≢ v

pub refuted : (Few : ℕ → ℕ → Type 0) (S : Steps) → TwoSheets Few S → OneSheetBy Few S → ⊥
refuted Few S t h =
    t.two_names
    (h t.powers t.height t.keeps t.fits t.tall t.few t.w t.reached t.i t.j t.r t.s t.u t.v
    t.keeper_i.on_roll t.keeper_i.rule t.keeper_j.on_roll t.keeper_j.rule t.one_sheet t.other_sheet)

-- ## One further kind of step

-- the honest steps, and these
abbrev pub Also : Steps → Steps
Also Extra powers height keeps w w' = Step powers height keeps w w' ⊎ Extra powers height keeps w w'

module _ (powers : List ℕ) (height : ℕ) (keeps : Seats) (w w' : World powers height keeps) where
  -- only the kiosk of this rule-keeping seat changes
  pub record Alone (i : ℕ) : Type 0 where
    pub keeper : Keeper powers keeps i
    pub others : (j : ℕ) → j ≢ i → w'.board j ≡ w.board j
    pub air : w'.air ≡ w.air

  abbrev Sees : ℕ → Input → Type 0
  Sees i x = system.Sees (scale powers height) keeps (kiosk_of powers height) w.air i x

  -- A kiosk votes afresh after a power cut: its journal opens, but it wakes with the state before start, an empty table and its file cut
  -- to the header
  pub data Afresh : Type 0 where
    wake_afresh : (i : ℕ) (d : List ℕ) (p : Past) (used : ℕ) → Alone i → w.board i ≡ off d → MayOpen d (opened p used)
        → w'.board i ≡ on (beginning (roll_at powers height i)) (take (header_length (roll_at powers height i)) d) → Afresh

  -- A second journal is created, although the one that is there opens
  pub data TwoJournals : Type 0 where
    create_second : (i : ℕ) (d f : List ℕ) (p : Past) (used : ℕ) → Alone i → w.board i ≡ off d → MayOpen d (opened p used)
        → MayCreate powers i height f → w'.board i ≡ off f → TwoJournals

  -- A power cut takes bytes that were written before
  pub data OldBytes : Type 0 where
    cut_old : (i : ℕ) (d : List ℕ) (p : Past) (n : ℕ) → Alone i → w.board i ≡ on p d → n < length d → w'.board i ≡ off (take n d) → OldBytes

  -- An input is put with the state, table and journal that an earlier call left
  pub data Stale : Type 0 where
    put_stale : (i : ℕ) (p old q : Past) (d f : List ℕ) (used : ℕ) (x : Input) → Alone i → w.board i ≡ on p d → used < length d
        → MayOpen (take used d) (opened old used) → Sees i x → MayPut old (take used d) x q f → w'.board i ≡ on q f → Stale

  -- A message is sent before its record is whole: an output of a call that would be accepted; file and memory stay as they were
  pub data Early : Type 0 where
    send_early : (i : ℕ) (p q : Past) (d f : List ℕ) (x : Input) (o : Out) → Keeper powers keeps i → w.board i ≡ on p d → Sees i x → MayPut p d x q f
        → In o (acts (sent_in (records f))) → ((j : ℕ) → w'.board j ≡ w.board j) → w'.air ≡ by i o ∷ w.air → Early

  -- A sender is forged: any input may come, whether or not a rule-keeping kiosk sent what it brings
  pub data Forged : Type 0 where
    put_forged : (i : ℕ) (p q : Past) (d f : List ℕ) (x : Input) → Alone i → w.board i ≡ on p d → MayPut p d x q f → w'.board i ≡ on q f → Forged

  -- The roll is not shared: a kiosk creates its journal with other powers
  pub data OwnRoll : Type 0 where
    create_own : (i : ℕ) (d f : List ℕ) (others : List ℕ) → Alone i → w.board i ≡ off d → MayOpen d no_header → MayCreate others i height f
        → w'.board i ≡ off f → OwnRoll

-- ## Two kiosks of powers 3 and 1: seat 0 settles 5, and seat 1 settles 6

zero_six : Story (roll_at two 2 0) (starts 6 ∷ []) (offered 6 ∷ prevote 0 6 ∷ other ∷ precommit 0 6 ∷ other ∷ settled 0 6 ∷ [])
unfolding the_stories
zero_six = record { created = two_creates 0 (omega arith); fit = refl; taken = refl; sent = refl }

abbrev hears_six : List Input
hears_six = starts 0 ∷ proposes 0 6 ∷ precommits 0 6 ∷ []

one_six : Story (roll_at two 2 1) hears_six (other ∷ prevote 0 6 ∷ other ∷ settled 0 6 ∷ [])
unfolding the_stories
one_six = record { created = two_creates 1 (omega arith); fit = refl; taken = refl; sent = refl }

module _ (Extra : Steps) where
  abbrev also : Setting
  also = two_by (Also Extra two 2 all) (λ w w' s. inl s)

  abbrev Came : World two 2 all → Type 0
  Came w = ReachedBy (Also Extra) two 2 all w

  alone : {w : World two 2 all} {i : ℕ} (b : Board Past) → Keeper two all i → Alone two 2 all w (with_board also w i b) i
  alone {w} {i} b k = record { keeper = k; others = λ j n. rw (ne_eqb j i n); air = refl }

  ends : (w : World two 2 all) (s : ℕ) → Came w → w.board 0 ≡ kiosk_after (roll_at two 2 0) (starts 5 ∷ []) → PutOut two 2 all w 1 (settled s 6)
      → TwoSheets UnderAThird (Also Extra)
  ends w s reached zero one = record {
    powers = two;
    height = 2;
    keeps = all;
    fits = two_fits;
    tall = tall;
    few = two_few;
    w = w;
    reached = reached;
    i = 0;
    j = 1;
    keeper_i = seat_0;
    keeper_j = seat_1;
    r = 0;
    s = s;
    u = 5;
    v = 6;
    one_sheet = story_out also w seat_0 (starts 5 ∷ []) zero zero_five (inr (inr (inr (inr (inr (inl refl))))));
    other_sheet = one;
    two_seats = λ e. omega arith;
    two_names = λ e. omega arith;
  }

  -- seat 1 heard of 6
  ends_six : (w : World two 2 all) → Came w → w.board 0 ≡ kiosk_after (roll_at two 2 0) (starts 5 ∷ []) → w.board 1 ≡ kiosk_after (roll_at two 2 1) hears_six
      → TwoSheets UnderAThird (Also Extra)
  ends_six w reached zero one = ends w 0 reached zero (story_out also w seat_1 hears_six one one_six (inr (inr (inr (inl refl)))))

  -- and seat 0 starts with 5
  starts_five : {w : World two 2 all} → Came w → w.board 0 ≡ kiosk_after (roll_at two 2 0) [] → w.board 1 ≡ kiosk_after (roll_at two 2 1) hears_six
      → TwoSheets UnderAThird (Also Extra)
  starts_five r zero one = ends_six _ (called also seat_0 [] r zero (starts 5) [] zero_five (may_own refl may_none)) refl one

  -- seat 1 hears of 6, where seat 0 sent it
  hears : {w : World two 2 all} → Came w → w.board 1 ≡ off [] → In (by 0 (offered 6)) w.air → In (by 0 (precommit 0 6)) w.air
      → Came (with_board also (with_board also w 1 (kiosk_after (roll_at two 2 1) [])) 1 (kiosk_after (roll_at two 2 1) hears_six))
  hears r none a b =
      called also seat_1 [] (powered also seat_1 r none) refl (starts 0) (proposes 0 6 ∷ precommits 0 6 ∷ []) one_six (may_own refl (may_sent a (may_sent b may_none)))

  -- seat 0 starts with 6, settles it and sends; seat 1 hears it, and settles it
  settled_six : (w : World two 2 all) × Came w × (w.board 0 ≡ kiosk_after (roll_at two 2 0) (starts 6 ∷ [])) × (w.board 1 ≡ kiosk_after (roll_at two 2 1) hears_six)
  settled_six =
      let r0 = powered also seat_0 (begins two 2 all) refl in
      let r1 = called also seat_0 [] r0 refl (starts 6) [] zero_six (may_own refl may_none) in
      let r2 = spoke also seat_0 (starts 6 ∷ []) zero_six r1 refl (offered 6) (inl refl) in
      let r3 = spoke also seat_0 (starts 6 ∷ []) zero_six r2 refl (precommit 0 6) (inr (inr (inr (inl refl)))) in
      (_, hears r3 refl (inr (inl refl)) (inl refl), refl, refl)

-- ## Seat 0 settles 6, and then 5

abbrev six_file : List ℕ
six_file = file_after (roll_at two 2 0) (starts 6 ∷ [])

abbrev head_file : List ℕ
head_file = file_after (roll_at two 2 0) []

-- its file begins with the header
six_header : take 11 six_file ≡ head_file
six_header = story_header (starts 6 ∷ []) zero_six

pub afresh : TwoSheets UnderAThird (Also Afresh)
unfolding leaves
afresh =
    let m = also Afresh in
    let t = settled_six Afresh in
    let b : Board Past = kiosk_after (roll_at two 2 0) [] in
    let r = rests m seat_0 t.1 t.2 in
    let step : Afresh two 2 all _ (with_board m (with_board m t.0 0 (off six_file)) 0 b) =
    wake_afresh 0 six_file _ _ (alone Afresh b seat_0) refl (story_opens (starts 6 ∷ []) zero_six) (ap {B = Board Past} (on (beginning (roll_at two 2 0))) (sym six_header)) in
    starts_five Afresh (next r (inr step)) refl t.3

pub two_journals : TwoSheets UnderAThird (Also TwoJournals)
two_journals =
    let m = also TwoJournals in
    let t = settled_six TwoJournals in
    let b : Board Past = off head_file in
    let r = rests m seat_0 t.1 t.2 in
    let step : TwoJournals two 2 all _ (with_board m (with_board m t.0 0 (off six_file)) 0 b) =
    create_second 0 six_file head_file _ _ (alone TwoJournals b seat_0) refl (story_opens (starts 6 ∷ []) zero_six) (may_create two 2 two_fits tall 0 (omega arith)) refl in
    starts_five TwoJournals (wakes m seat_0 [] (untold two 2 two_fits tall 0 (omega arith)) (next r (inr step)) refl) refl t.3

-- and goes on
six_long : 11 < length six_file
unfolding the_stories the_layout
six_long = ltb-true 11 (length six_file) refl

pub old_bytes : TwoSheets UnderAThird (Also OldBytes)
old_bytes =
    let m = also OldBytes in
    let t = settled_six OldBytes in
    let b : Board Past = off head_file in
    let step : OldBytes two 2 all t.0 (with_board m t.0 0 b) =
    cut_old 0 six_file _ 11 (alone OldBytes b seat_0) t.2 six_long (ap {B = Board Past} off (sym six_header)) in
    starts_five OldBytes (wakes m seat_0 [] (untold two 2 two_fits tall 0 (omega arith)) (next t.1 (inr step)) refl) refl t.3

-- it starts with 5, with the state of before it started with 6
pub stale : TwoSheets UnderAThird (Also Stale)
unfolding leaves
stale =
    let m = also Stale in
    let t = settled_six Stale in
    let b : Board Past = kiosk_after (roll_at two 2 0) (starts 5 ∷ []) in
    let own : MayCome all t.0.air (starts 5 ∷ []) = may_own refl may_none in
    let opens : MayOpen (take 11 six_file) (opened (beginning (roll_at two 2 0)) 11) = rw six_header (story_opens [] (untold two 2 two_fits tall 0 (omega arith))) in
    let step : Stale two 2 all t.0 (with_board m t.0 0 b) =
    put_stale 0 _ (beginning (roll_at two 2 0)) (memory_after (roll_at two 2 0) (starts 5 ∷ [])) six_file (file_after (roll_at two 2 0) (starts 5 ∷ [])) 11 (starts 5) (alone Stale b seat_0) t.2 six_long opens (sees_first m own 0)
    (rw six_header (story_puts [] (starts 5) zero_five)) refl in
    ends_six Stale _ (next t.1 (inr step)) refl t.3

-- ## Seat 1 is told of 6 though seat 0 does no such thing

-- what starting with 6 would put out, sent before
says_early : (w : World two 2 all) → w.board 0 ≡ kiosk_after (roll_at two 2 0) [] → (o : Out)
    → In o (offered 6 ∷ prevote 0 6 ∷ other ∷ precommit 0 6 ∷ other ∷ settled 0 6 ∷ []) → Early two 2 all w (with_word (also Early) w 0 o)
says_early w e o a =
    let own : MayCome all w.air (starts 6 ∷ []) = may_own refl may_none in
    send_early 0 _ _ _ six_file (starts 6) o seat_0 e (sees_first (also Early) own 0) (story_puts [] (starts 6) zero_six)
    (rw (story_outputs (starts 6 ∷ []) zero_six) a) (λ j. refl) refl

-- seat 0 sends that, and then starts with 5
pub early : TwoSheets UnderAThird (Also Early)
early =
    let m = also Early in
    let r0 = powered m seat_0 (begins two 2 all) refl in
    let r1 = next r0 (inr (says_early _ refl (offered 6) (inl refl))) in
    let r2 = next r1 (inr (says_early _ refl (precommit 0 6) (inr (inr (inr (inl refl)))))) in
    starts_five Early (hears Early r2 refl (inr (inl refl)) (inl refl)) refl refl

comes_forged : (w : World two 2 all) (is : List Input) (x : Input) {os : List Out} → w.board 1 ≡ kiosk_after (roll_at two 2 1) is
    → Story (roll_at two 2 1) (is ++ (x ∷ [])) os → Forged two 2 all w (with_board (also Forged) w 1 (kiosk_after (roll_at two 2 1) (is ++ (x ∷ []))))
comes_forged w is x e s = put_forged 1 _ _ _ _ x (alone Forged (kiosk_after (roll_at two 2 1) (is ++ (x ∷ []))) seat_1) e (story_puts is x s) refl

-- seat 1 starts, and a proposal and a precommit for 6 come to it under the number of seat 0
pub forged : TwoSheets UnderAThird (Also Forged)
forged =
    let m = also Forged in
    let r0 = powered m seat_0 (begins two 2 all) refl in
    let r1 = powered m seat_1 r0 refl in
    let r2 = called m seat_1 [] r1 refl (starts 0) [] (first_part (starts 0 ∷ []) (proposes 0 6 ∷ precommits 0 6 ∷ []) one_six) (may_own refl may_none) in
    let r3 = next r2 (inr (comes_forged _ (starts 0 ∷ []) (proposes 0 6) refl (first_part (starts 0 ∷ proposes 0 6 ∷ []) (precommits 0 6 ∷ []) one_six))) in
    let r4 = next r3 (inr (comes_forged _ (starts 0 ∷ proposes 0 6 ∷ []) (precommits 0 6) refl one_six)) in
    starts_five Forged r4 refl refl

-- ## Seat 1 counts itself 3 and seat 0 1

abbrev swapped : List ℕ
swapped = 1 ∷ 3 ∷ []

swapped_fits : roll_fits (roll_at swapped 2 0) ≡ true
unfolding the_choices the_weighing
swapped_fits = refl

-- its timers of propose and of precommit in round 0 go off, and it settles its offer in round 1
abbrev times_out : List Input
times_out = starts 0 ∷ input 5 0 0 0 0 ∷ input 7 0 0 0 6 ∷ []

one_alone : Story (roll_at swapped 2 1) times_out
    (other ∷ prevote 0 0 ∷ other ∷ precommit 0 0 ∷ other ∷ proposal (1 ∷ 0 ∷ 6 ∷ []) ∷ prevote 1 6 ∷ other ∷ precommit 1 6 ∷ other ∷ settled 1 6 ∷ [])
unfolding the_stories
one_alone = record { created = creates swapped 2 swapped_fits tall 1 (omega arith); fit = refl; taken = refl; sent = refl }

pub own_roll : TwoSheets UnderAThird (Also OwnRoll)
own_roll =
    let m = also OwnRoll in
    let b : Board Past = off (file_after (roll_at swapped 2 1) []) in
    let r0 = powered m seat_0 (begins two 2 all) refl in
    let r1 = called m seat_0 [] r0 refl (starts 5) [] zero_five (may_own refl may_none) in
    let step = create_own 1 [] (file_after (roll_at swapped 2 1) []) swapped (alone OwnRoll b seat_1) refl (none_there (two_creates 1 (omega arith))) (may_create swapped 2 swapped_fits tall 1 (omega arith)) refl in
    let r2 = wakes m seat_1 [] (untold swapped 2 swapped_fits tall 1 (omega arith)) (next r1 (inr step)) refl in
    let r3 = called m seat_1 [] r2 refl (starts 0) (input 5 0 0 0 0 ∷ input 7 0 0 0 6 ∷ []) one_alone (may_own refl (may_own refl (may_own refl may_none))) in
    ends OwnRoll _ 1 r3 refl (story_out m _ seat_1 times_out refl one_alone (inr (inr (inr (inr (inr (inr (inr (inr (inr (inr (inl refl))))))))))))

-- ## Rule-breakers that hold more

-- powers 1, 1, 2: the rule-breaker at seat 2 holds half
abbrev half : List ℕ
half = 1 ∷ 1 ∷ 2 ∷ []

half_fits : roll_fits (roll_at half 2 0) ≡ true
unfolding the_choices the_weighing
half_fits = refl

half_many : total_of (roll_at half 2 0) + 2 ≤ 3 * power_of (roll_at half 2 0) (λ i. not (but_two i))
unfolding the_weighing
half_many = omega arith

half_five : Story (roll_at half 2 0) (story 5) (other ∷ prevote 0 5 ∷ other ∷ precommit 0 5 ∷ other ∷ settled 0 5 ∷ [])
unfolding the_stories
half_five = record { created = creates half 2 half_fits tall 0 (omega arith); fit = refl; taken = refl; sent = refl }

half_six : Story (roll_at half 2 1) (story 6) (other ∷ prevote 0 6 ∷ other ∷ precommit 0 6 ∷ other ∷ settled 0 6 ∷ [])
unfolding the_stories
half_six = record { created = creates half 2 half_fits tall 1 (omega arith); fit = refl; taken = refl; sent = refl }

-- with no altered step. That 3B = T and 3B = T + 1 matter cannot be shown: agreement's proof still holds with 3B ≤ T + 1
pub many_breakers : TwoSheets (λ b t. t + 2 ≤ 3 * b) Step
many_breakers =
    let m = honest_at half half_fits in
    let seat_0 : Keeper half but_two 0 = record { on_roll = omega arith; rule = refl } in
    let seat_1 : Keeper half but_two 1 = record { on_roll = omega arith; rule = refl } in
    let t = tells half half_fits seat_0 seat_1 half_five half_six in
    record {
      powers = half;
      height = 2;
      keeps = but_two;
      fits = half_fits;
      tall = tall;
      few = half_many;
      w = t.0;
      reached = t.1.reached;
      i = 0;
      j = 1;
      keeper_i = seat_0;
      keeper_j = seat_1;
      r = 0;
      s = 0;
      u = 5;
      v = 6;
      one_sheet = story_out m t.0 seat_0 (story 5) t.1.five half_five (inr (inr (inr (inr (inr (inl refl))))));
      other_sheet = story_out m t.0 seat_1 (story 6) t.1.six half_six (inr (inr (inr (inr (inr (inl refl))))));
      two_seats = λ e. omega arith;
      two_names = λ e. omega arith;
    }
