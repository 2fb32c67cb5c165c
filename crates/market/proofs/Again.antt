-- Saying it again is covered by demand 3: what waking lists of a rule-keeping kiosk's file are outputs of its whole records, and so each may
-- be sent by a step of the market. Assumes nothing.
use Prim.Native.Nat.{ℕ, ◌<◌}
use mathlib.Core.Path.{◌≡◌, refl, sym, subst, ◌∙◌}
use mathlib.Core.Logic.{⊎_elim}
use mathlib.Core.List.{List, [], ◌∷◌, ◌++◌, append-nil}
use mathlib.Core.Bool.{true}
use lib.ListN.{length, take}
use Rattle.words.specs.Members.{In}
use Rattle.roll.specs.declared.Roll.{Roll}
use Rattle.rules.specs.declared.Output.{Output}
use Rattle.rules.specs.Log.{table_length}
use Rattle.history.specs.Histories.{Call, Past, History, written, Tail, none, records, sent_in}
use Rattle.history.proofs.OneHistory.{spoken}
use Rattle.again.specs.Again.{round_of, Waking, wake}
use Rattle.again.proofs.Recorded.{recent_in}
use Rattle.again.proofs.Cuts.{cut_says_again}
use Rattle.agreement.specs.Weigh.{Seats}
use Rattle.agreement.specs.System.{opened, off, on, by, send}
use Rattle.agreement.proofs.System.{on_so, off_so, opened_so}
use Rattle.market.specs.Seat.{act, acts}
use Rattle.market.specs.Kiosks.{MayOpen}
use Rattle.market.specs.Demand3.{roll_at, World, Step, InEveryMarket}
use Rattle.market.proofs.Settled.{acts_in}
use Rattle.market.proofs.Kiosks.{lawful, within}
use Rattle.market.proofs.Each.{Terms, law, sound}

-- what is listed of a file that a history wrote, whatever a power cut left after it and whichever way the file is lent
listed_out : {roll : Roll} {cs : List Call} {p : Past} → History roll cs p → (d tail : List ℕ) → Tail p tail → d ≡ written roll cs ++ tail
    → (area table : List ℕ) → take (length d) area ≡ d → length table ≡ table_length
    → (x : Output) → In x (wake area (length d) table).messages → In (act x) (acts (sent_in (records (written roll cs))))
listed_out {roll} {cs} {p} h d tail t is area table begins places x a =
    let w = cut_says_again area (length d) table places (within d area begins) h tail t (begins ∙ is) in
    let b = recent_in (round_of p.kiosk) x (sent_in cs) (subst (λ (y : Waking). In x y.messages) w a) in
    acts_in x (sent_in (records (written roll cs))) (subst (λ (os : List Output). In x os) (sym (spoken h)) b.0)

-- the world in which seat i has said it
abbrev pub with_said : (powers : List ℕ) (height : ℕ) (keeps : Seats) → World powers height keeps → ℕ → Output → World powers height keeps
with_said powers height keeps w i x = record { board = w.board; air = by i (act x) ∷ w.air }

-- A rule-keeping kiosk with power: each message that waking lists of its file may be sent
pub says_again_sends : InEveryMarket (λ powers height keeps w.
    (i : ℕ) → i < length powers → keeps i ≡ true → (p : Past) (d : List ℕ) → w.board i ≡ on p d →
    (area table : List ℕ) → take (length d) area ≡ d → length table ≡ table_length →
    (x : Output) → In x (wake area (length d) table).messages → Step powers height keeps w (with_said powers height keeps w i x))
unfolding lawful
says_again_sends powers height keeps fits tall third w reach i hi ki p d eb area table begins places x a =
    let m : Terms powers height keeps = record { fits = fits; tall = tall; few = third } in
    let q = sound m w reach i hi ki in
    let h = q.history in
    let roll = roll_at powers height i in
    let file : d ≡ written roll h.calls = (on_so (law m i hi) q.holds eb).1 in
    let out = listed_out h.history d [] none (file ∙ sym (append-nil (written roll h.calls))) area table begins places x a in
    send i p d (act x) hi ki eb (subst (λ (f : List ℕ). In (act x) (acts (sent_in (records f)))) (sym file) out) (λ j. refl) refl

-- One that wakes: each message that is listed of all the bytes that the cut left may be sent once it has opened them
pub wakes_and_sends : InEveryMarket (λ powers height keeps w.
    (i : ℕ) → i < length powers → keeps i ≡ true → (d : List ℕ) → w.board i ≡ off d → (p : Past) (n : ℕ) → MayOpen d (opened p n) →
    (area table : List ℕ) → take (length d) area ≡ d → length table ≡ table_length →
    (x : Output) → In x (wake area (length d) table).messages →
    (v : World powers height keeps) → v.board i ≡ on p (take n d) → Step powers height keeps v (with_said powers height keeps v i x))
unfolding lawful
wakes_and_sends powers height keeps fits tall third w reach i hi ki d eb p n op area table begins places x a v ev =
    let m : Terms powers height keeps = record { fits = fits; tall = tall; few = third } in
    let q = sound m w reach i hi ki in
    let h = q.history in
    let file = (opened_so (law m i hi) q.holds eb op).1 in
    ⊎_elim
    (λ u. let z = (law m i hi).unmade_opens d u.0 (opened p n) op in absurd (cc))
    (λ l.
    let out = listed_out h.history d l.0 l.1 l.2 area table begins places x a in
    send i p (take n d) (act x) hi ki ev (subst (λ (f : List ℕ). In (act x) (acts (sent_in (records f)))) (sym file) out) (λ j. refl) refl)
    (off_so (law m i hi) q.holds eb)
