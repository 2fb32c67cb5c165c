-- A play as a table. A scene is what was told to each kiosk, what is on the radio and what was delivered; a move goes on with it. Whether
-- moves can be made one after the other is computed, and where they can, there is a play, whatever may arrive. Assumes nothing.
use Rattle.std.specs.Bool.{if◌then◌else◌}
use Prim.Native.Nat.{ℕ, ◌+◌, ◌≤◌}
use mathlib.Core.Path.{◌≡◌, refl, ap, sym, ◌∙◌}
use mathlib.Core.Logic.{inl, inr}
use mathlib.Core.List.{List, [], ◌∷◌, ◌++◌, append-nil}
use mathlib.Core.Bool.{Bool, true, false, ◌&&◌, ◌||◌, not, false≢true}
use native.Mathlib.Omega.{arith}
use borrow.Author.Tests.{eq-eqb, ne_eqb, eqb-true, ltb-true, not-true}
use lib.Dec.{eqb, ltb}
use lib.ListN.{length, take, drop, get_or, replicate, length-append, length-replicate}
use lib.Seq.{take_at, take-length, take-append-add}
use Rattle.words.specs.Members.{In}
use Rattle.words.proofs.Choice.{by_test, by_cases, and_left, and_right}
use Rattle.roll.specs.declared.Roll.{Roll}
use Rattle.rules.specs.declared.Input.{Input}
use Rattle.rules.specs.Sent.{packed}
use Rattle.journal.specs.Layout.{group_bytes, group_length, roomy}
use Rattle.journal.proofs.Roundtrip.{length_group}
use Rattle.refusals.specs.Answers.{is_accepted}
use Rattle.refusals.specs.Refusals.{refused_input}
use Rattle.kiosk.specs.Calls.{Called, put}
use Rattle.history.specs.Histories.{Call, Past, does, after, takes, beginning, History, Tail, told_none, none, written, sent_in, calls_of}
use Rattle.history.proofs.Finding.{part_tail}
use Rattle.history.proofs.OneHistory.{spoken}
use Rattle.history.proofs.Openings.{history_used}
use Rattle.history.proofs.Puts.{more, longer, written_snoc}
use Rattle.history.proofs.Room.{put_answers}
use Rattle.agreement.specs.Weigh.{Seats}
use Rattle.agreement.specs.Moves.{Out, proposal, prevote, precommit, settled, other}
use Rattle.agreement.specs.System.{Board, off, on, Msg, by, Change, create, write_cut}
use Rattle.agreement.specs.System as system
use Rattle.market.specs.Seat.{acts}
use Rattle.market.specs.Kiosks.{kiosk_of}
use Rattle.market.specs.Demand3.{roll_at, scale, World, Reached}
use Rattle.market.proofs.Each.{Terms}
use Rattle.market.proofs.Schedule.{narrow, wide_first, none_there, one_more, creates, may_create, waked, leads_on}
use Rattle.closing.specs.Waves.{Keeps, Delivery, to, Play, accepts, refuses, changes, sends}
use Rattle.closing.specs.Closing.{desk_of}
use Rattle.closing.proofs.Plays.{play_leads}

-- ## Outputs, compared

-- an output as numbers, and back
abbrev pub code : Out → List ℕ
code (prevote r name) = 0 ∷ r ∷ name ∷ []
code (precommit r name) = 1 ∷ r ∷ name ∷ []
code (settled r name) = 2 ∷ r ∷ name ∷ []
code (proposal l) = 3 ∷ l
code other = 4 ∷ []

uncode : List ℕ → Out
uncode l =
    if eqb (get_or l 0 0) 0 then prevote (get_or l 1 0) (get_or l 2 0)
    else if eqb (get_or l 0 0) 1 then precommit (get_or l 1 0) (get_or l 2 0)
    else if eqb (get_or l 0 0) 2 then settled (get_or l 1 0) (get_or l 2 0)
    else if eqb (get_or l 0 0) 3 then proposal (drop 1 l)
    else other

uncoded : (o : Out) → uncode (code o) ≡ o
unfolding uncode
uncoded (prevote r name) = refl
uncoded (precommit r name) = refl
uncoded (settled r name) = refl
uncoded (proposal l) = refl
uncoded other = refl

unfoldable pub same : List ℕ → List ℕ → Bool
same [] [] = true
same [] (y ∷ ys) = false
same (x ∷ xs) [] = false
same (x ∷ xs) (y ∷ ys) = eqb x y && same xs ys

same_so : (xs ys : List ℕ) → same xs ys ≡ true → xs ≡ ys
unfolding same
same_so [] [] e = refl
same_so [] (y ∷ ys) e = absurd (false≢true e)
same_so (x ∷ xs) [] e = absurd (false≢true e)
same_so (x ∷ xs) (y ∷ ys) e = rw (eqb-true x y (and_left (eqb x y) (same xs ys) e), same_so xs ys (and_right (eqb x y) (same xs ys) e))

abbrev pub same_out : Out → Out → Bool
same_out o u = same (code o) (code u)

pub same_out_so : (o u : Out) → same_out o u ≡ true → o ≡ u
same_out_so o u e = sym (uncoded o) ∙ ap uncode (same_so (code o) (code u) e) ∙ uncoded u

-- one of some outputs
unfoldable pub among : Out → List Out → Bool
among o [] = false
among o (u ∷ os) = same_out o u || among o os

pub among_in : (o : Out) (os : List Out) → among o os ≡ true → In o os
unfolding among
among_in o [] e = absurd (false≢true e)
among_in o (u ∷ os) e = by_cases (same_out o u) (λ t. inl (same_out_so o u t)) (λ t. inr (among_in o os (rw t at e)))

-- ## A market

pub record Market : Type 0 where
  pub powers : List ℕ
  pub height : ℕ
  pub keeps : Seats
  pub terms : Terms powers height keeps

-- a kiosk without a journal, or with power: what its calls left, and its calls
pub data Seat : Type 0 where
  dark : Seat
  lit : Past → List Call → Seat

pub record Scene : Type 0 where
  pub seat : ℕ → Seat
  pub air : List Msg
  pub came : List Delivery

-- nothing is told; and nothing is delivered yet
abbrev pub unbegun : Scene
unbegun = record { seat = λ i. dark; air = []; came = [] }

abbrev pub afresh : Scene → Scene
afresh s = record { seat = s.seat; air = s.air; came = [] }

-- what a kiosk does: it creates its journal and opens it; it accepts an input; it refuses one; power goes after n bytes of an input's group,
-- and it opens its journal again; it sends an output
pub data Move : Type 0 where
  turn_on : ℕ → Move
  hear : ℕ → Input → Move
  refuse : ℕ → Input → Move
  lose_power : ℕ → Input → ℕ → Move
  say : ℕ → Out → Move

abbrev mover : Move → ℕ
mover (turn_on i) = i
mover (hear i x) = i
mover (refuse i x) = i
mover (lose_power i x n) = i
mover (say i o) = i

-- what one input more leaves
abbrev told : Input → Seat → Seat
told x dark = dark
told x (lit p cs) = lit (after p x) (more cs p x)

abbrev with_seat : ℕ → Seat → Scene → ℕ → Seat
with_seat i q s j = if eqb j i then q else s.seat j

-- what a seat can do
abbrev can_turn_on : Seat → Bool
can_turn_on dark = true
can_turn_on (lit p cs) = false

abbrev can_hear : Input → Seat → Bool
can_hear x dark = false
can_hear x (lit p cs) = takes p x && narrow (x ∷ [])

abbrev can_refuse : Input → Seat → Bool
can_refuse x dark = false
can_refuse x (lit p cs) = not (is_accepted (refused_input (desk_of p) x))

abbrev can_lose : Input → ℕ → Seat → Bool
can_lose x n dark = false
can_lose x n (lit p cs) = ltb n (group_length (does p x).sent)

abbrev can_say : Out → Seat → Bool
can_say o dark = false
can_say o (lit p cs) = among o (acts (sent_in cs))

module _ (m : Market) where
  abbrev roll : ℕ → Roll
  roll i = roll_at m.powers m.height i

  abbrev pub W : Type 0
  W = World m.powers m.height m.keeps

  abbrev pub On : ℕ → Type 0
  On i = Keeps m.powers m.keeps i

  abbrev pub board_of : ℕ → Seat → Board Past
  board_of i dark = off []
  board_of i (lit p cs) = on p (written (roll i) cs)

  abbrev pub world_of : Scene → W
  world_of s = record { board = λ i. board_of i (s.seat i); air = s.air }

  unfoldable pub next_scene : Move → Scene → Scene
  next_scene (turn_on i) s = record { seat = with_seat i (lit (beginning (roll i)) []) s; air = s.air; came = s.came }
  next_scene (hear i x) s = record { seat = with_seat i (told x (s.seat i)) s; air = s.air; came = to i x ∷ s.came }
  next_scene (refuse i x) s = record { seat = s.seat; air = s.air; came = to i x ∷ s.came }
  next_scene (lose_power i x n) s = s
  next_scene (say i o) s = record { seat = s.seat; air = by i o ∷ s.air; came = s.came }

  unfoldable pub run : List Move → Scene → Scene
  run [] s = s
  run (a ∷ as') s = run as' (next_scene a s)

  -- by a test of what may arrive
  module _ (test : List Msg → List Delivery → ℕ → Input → Bool) where
    unfoldable pub can : Move → Scene → Bool
    can (turn_on i) s = can_turn_on (s.seat i)
    can (hear i x) s = can_hear x (s.seat i) && test s.air s.came i x
    can (refuse i x) s = can_refuse x (s.seat i)
    can (lose_power i x n) s = can_hear x (s.seat i) && can_lose x n (s.seat i) && test s.air s.came i x
    can (say i o) s = can_say o (s.seat i)

    unfoldable pub passes : List Move → Scene → Bool
    passes [] s = true
    passes (a ∷ as') s = (ltb (mover a) (length m.powers) && m.keeps (mover a)) && can a s && passes as' (next_scene a s)

  -- ## The play

  -- what is told to a seat is a history
  abbrev pub Known : ℕ → Seat → Type 0
  Known i dark = Unit {0}
  Known i (lit p cs) = History (roll i) cs p

  module _ (May : List Msg → List Delivery → ℕ → Input → Type 0) (v : W) where
    pub record Plays (s : Scene) : Type 0 where
      pub known : (i : ℕ) → Known i (s.seat i)
      pub play : Play m.powers m.height m.keeps May v (world_of s) s.came

    module _ {s : Scene} (r : Plays s) {i : ℕ} (k : On i) where
      abbrev Changes : Board Past → Board Past → Type 0
      Changes b b' = Change (kiosk_of m.powers m.height i) (May s.air s.came i) b b'

      known_with : (q : Seat) → Known i q → (j : ℕ) → Known j (with_seat i q s j)
      known_with q h j = by_test (Known j) (eqb j i) (λ e. rw (eqb-true j i e) h) (λ e. r.known j)

      others_stay : (q : Seat) (j : ℕ) → (j ≡ i → ⊥) → board_of j (with_seat i q s j) ≡ board_of j (s.seat j)
      others_stay q j n = rw (ne_eqb j i n)

      this_moves : (q : Seat) → board_of i (with_seat i q s i) ≡ board_of i q
      this_moves q = rw (eq-eqb i i refl)

      -- the world where this seat's board is another
      abbrev between : Board Past → W
      between b = record { board = λ j. if eqb j i then b else board_of j (s.seat j); air = s.air }

      -- a change of this seat, and another after it
      two_changes : {b b₁ b₂ : Board Past} → board_of i (s.seat i) ≡ b → Changes b b₁ → Changes b₁ b₂ → (q : ℕ → Seat) → board_of i (q i) ≡ b₂
          → ((j : ℕ) → (j ≡ i → ⊥) → q j ≡ s.seat j)
          → Play m.powers m.height m.keeps May v (world_of (record { seat = q; air = s.air; came = s.came })) s.came
      two_changes {b} {b₁} {b₂} e one two q f others =
          let w : W = world_of (record { seat = q; air = s.air; came = s.came }) in
          let first : Play m.powers m.height m.keeps May v (between b₁) s.came =
          changes {w' = between b₁} r.play i k (rw (e, eq-eqb i i refl) one) (λ j n. rw (ne_eqb j i n)) refl in
          changes {w' = w} first i k (rw (eq-eqb i i refl, f) two) (λ j n. rw (ne_eqb j i n) (ap (board_of j) (others j n))) refl

      turns_on : (q : Seat) → s.seat i ≡ q → can_turn_on q ≡ true → Plays (next_scene (turn_on i) s)
      unfolding next_scene calls_of
      turns_on dark e c =
          let made = creates m.powers m.height m.terms.fits m.terms.tall i k.0 in
          let head : List ℕ = written (roll i) [] in
          let h : History (roll i) [] (beginning (roll i)) = record { created = made; told = told_none } in
          let one : Changes (off []) (off head) =
          create [] head (length head) refl (none_there made) (may_create m.powers m.height m.terms.fits m.terms.tall i k.0) (ap {B = Board Past} off (sym (take-length head))) in
          record {
            known = known_with (lit (beginning (roll i)) []) h;
            play = two_changes (ap (board_of i) e) one (waked h head [] none (sym (append-nil head))) (with_seat i (lit (beginning (roll i)) []) s)
                (this_moves (lit (beginning (roll i)) [])) (λ j n. rw (ne_eqb j i n));
          }
      turns_on (lit p cs) e c = absurd (false≢true c)

      hears : (x : Input) (q : Seat) → s.seat i ≡ q → can_hear x q ≡ true → May s.air s.came i x → Plays (next_scene (hear i x) s)
      unfolding next_scene
      hears x dark e c may = absurd (false≢true c)
      hears x (lit p cs) e c may =
          let h : History (roll i) cs p = rw e at (r.known i) in
          let t : takes p x ≡ true = and_left (takes p x) (narrow (x ∷ [])) c in
          let w = wide_first x [] (and_right (takes p x) (narrow (x ∷ [])) c) in
          let q : Seat = lit (after p x) (more cs p x) in
          rw e (record {
            known = known_with q (longer h x w t);
            play = accepts {w' = world_of (record { seat = with_seat i q s; air = s.air; came = to i x ∷ s.came })} r.play i x k may (record {
              past = p;
              next = after p x;
              file = written (roll i) cs;
              longer = written (roll i) (more cs p x);
              before = ap (board_of i) e;
              puts = one_more h x w t;
              after = this_moves q;
              others = others_stay q;
              air = refl;
            });
          })

      refuses_so : (x : Input) (q : Seat) → s.seat i ≡ q → can_refuse x q ≡ true → Plays (next_scene (refuse i x) s)
      unfolding next_scene
      refuses_so x dark e c = absurd (false≢true c)
      refuses_so x (lit p cs) e c =
          let h : History (roll i) cs p = rw e at (r.known i) in
          let file : List ℕ = written (roll i) cs in
          let n = roomy (length m.powers) in
          let area : List ℕ = file ++ replicate n 0 in
          let long : n ≤ length area = omega (arith, length-append file (replicate n 0), length-replicate {A = ℕ} n 0) in
          let o : Called = put x p.kiosk p.table area in
          record {
            known = r.known;
            play = refuses r.play i x k (record {
              past = p;
              file = file;
              powered = ap (board_of i) e;
              area = area;
              begins = take_at file (replicate n 0) p.kiosk.used (sym (history_used h));
              room = long;
              reply = record { answer = o.answer; sent = packed o.sent; kiosk = o.kiosk };
              table = o.table;
              journal = o.journal;
              meets = record { answer = refl; sent = refl; kiosk = refl; table_is = refl; journal_is = refl };
              refused = ap is_accepted (put_answers h area long x) ∙ not-true (is_accepted (refused_input (desk_of p) x)) c;
            });
          }

      loses : (x : Input) (n : ℕ) (q : Seat) → s.seat i ≡ q → can_hear x q ≡ true → can_lose x n q ≡ true → May s.air s.came i x → Plays (next_scene (lose_power i x n) s)
      unfolding next_scene
      loses x n dark e c l may = absurd (false≢true c)
      loses x n (lit p cs) e c l may =
          let h : History (roll i) cs p = rw e at (r.known i) in
          let t : takes p x ≡ true = and_left (takes p x) (narrow (x ∷ [])) c in
          let w = wide_first x [] (and_right (takes p x) (narrow (x ∷ [])) c) in
          let d : List ℕ = written (roll i) cs in
          let sent = (does p x).sent in
          let g : List ℕ = group_bytes x sent in
          let part : take (length d + n) (written (roll i) (more cs p x)) ≡ d ++ take n g
          = ap (take (length d + n)) (written_snoc (roll i) cs (record { input = x; sent = sent })) ∙ take-append-add d g n in
          let one : Changes (on p d) (off (d ++ take n g)) =
          write_cut p (after p x) d (written (roll i) (more cs p x)) x (length d + n) refl may (one_more h x w t) (omega arith) (ap {B = Board Past} off (sym part)) in
          let tail : Tail p (take n g) = part_tail p x n t w (omega (arith, length_group x sent, ltb-true n (group_length sent) l)) in
          record {
            known = r.known;
            play = two_changes (ap (board_of i) e) one (waked h (d ++ take n g) (take n g) tail refl) s.seat (ap (board_of i) e) (λ j n. refl);
          }

      says : (o : Out) (q : Seat) → s.seat i ≡ q → can_say o q ≡ true → Plays (next_scene (say i o) s)
      unfolding next_scene
      says o dark e c = absurd (false≢true c)
      says o (lit p cs) e c =
          let h : History (roll i) cs p = rw e at (r.known i) in
          record {
            known = r.known;
            play = sends {w' = world_of (next_scene (say i o) s)} r.play i p (written (roll i) cs) o k (ap (board_of i) e)
                (rw (spoken h) (among_in o (acts (sent_in cs)) c)) (λ j. refl) refl;
          }

    module _ (test : List Msg → List Delivery → ℕ → Input → Bool)
        (sound : (air : List Msg) (ds : List Delivery) (i : ℕ) (x : Input) → test air ds i x ≡ true → May air ds i x)
      where
        one_move : {s : Scene} → Plays s → (a : Move) → On (mover a) → can test a s ≡ true → Plays (next_scene a s)
        unfolding can
        one_move {s} r (turn_on i) k c = turns_on r k (s.seat i) refl c
        one_move {s} r (hear i x) k c =
            let t = test s.air s.came i x in
            let a = can_hear x (s.seat i) in
            hears r k x (s.seat i) refl (and_left a t c) (sound s.air s.came i x (and_right a t c))
        one_move {s} r (refuse i x) k c = refuses_so r k x (s.seat i) refl c
        one_move {s} r (lose_power i x n) k c =
            let t = test s.air s.came i x in
            let a = can_hear x (s.seat i) in
            let l = can_lose x n (s.seat i) in
            loses r k x n (s.seat i) refl (and_left a l (and_left (a && l) t c)) (and_right a l (and_left (a && l) t c)) (sound s.air s.came i x (and_right (a && l) t c))
        one_move {s} r (say i o) k c = says r k o (s.seat i) refl c

        -- moves that pass are played
        pub moves_so : {s : Scene} → Plays s → (as' : List Move) → passes test as' s ≡ true → Plays (run as' s)
        unfolding passes run
        moves_so {s} r [] c = r
        moves_so {s} r (a ∷ as') c =
            let on_roll = ltb (mover a) (length m.powers) in
            let rule = m.keeps (mover a) in
            let first = and_left (on_roll && rule && can test a s) (passes test as' (next_scene a s)) c in
            let k = and_left (on_roll && rule) (can test a s) first in
            let next = one_move r a (ltb-true (mover a) (length m.powers) (and_left on_roll rule k), and_right on_roll rule k) (and_right (on_roll && rule) (can test a s) first) in
            moves_so {s = next_scene a s} next as' (and_right (on_roll && rule && can test a s) (passes test as' (next_scene a s)) c)

  -- what may arrive in the market, by demand 3 alone
  abbrev pub UnforgedNow : List Msg → List Delivery → ℕ → Input → Type 0
  UnforgedNow air ds i x = system.Sees (scale m.powers m.height) m.keeps (kiosk_of m.powers m.height) air i x

  -- so what is played there is reached
  pub play_reached : {v w : W} {ds : List Delivery} → Reached m.powers m.height m.keeps v
      → Play m.powers m.height m.keeps UnforgedNow v w ds → Reached m.powers m.height m.keeps w
  play_reached r p = leads_on m.powers m.height m.keeps r (play_leads (λ air ds i x seen. seen) p)
