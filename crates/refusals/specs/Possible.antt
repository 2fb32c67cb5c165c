-- Refusal 1, "state, table or used length impossible", but for the used length. 01, "Refusal 1 is given when". Assumes nothing.
use Rattle.std.specs.Prelude.{ℕ, suc, ◌^◌, Bool, ◌&&◌, ◌||◌, not, length, ltb, leb, eqb, if◌then◌else◌, is_some}
use Rattle.words.specs.Choice.{all_below, all_zero}
use Rattle.roll.specs.Weighing.{roll_fits, own_fits}
use Rattle.rules.specs.declared.Held.{Held}
use Rattle.rules.specs.State.{is_fresh, settled_round, unheard, spoken}
use Rattle.rules.specs.Log.{Desk, table_length, heard, proposed}
use Rattle.rules.specs.Doing.{current}
use Rattle.rules.specs.Rules.{first_rule}

-- "locked or valid round outside -1 to the current round, or -1 without name 0 or the reverse"
abbrev pub held_fits : ℕ → Held → Bool
held_fits r h = leb h.next.0 (suc r) && (if eqb h.next.0 0 then eqb h.name 0 else not (eqb h.name 0))

-- "a mark for a seat not on the roll"; "a heard proposal with name 0 or a valid round below -1 or not below its own"
unfoldable pub round_fits : Desk → ℕ → Bool
round_fits d r =
    let h = heard d r in
    let n = d.state.roll.kiosks in
    ltb h.prevotes (2 ^ n) &&
    ltb h.precommits (2 ^ n) &&
    (not (spoken h) || (not (eqb (proposed d r) 0) && leb h.valid r))

-- "not started yet with anything heard, a table place not 0, a round not 0, or a lock or valid sheet held"
unfoldable pub fresh_fits : Desk → Bool
fresh_fits d =
    all_below d.rounds (λ r. unheard (heard d r)) &&
    all_zero d.table &&
    eqb (current d) 0 &&
    eqb d.state.progress.locked.next.0 0 &&
    eqb d.state.progress.valid.next.0 0

-- "or started, not settled and some rule already applies"
unfoldable pub at_rest : Desk → Bool
at_rest d = if is_fresh d.state.progress.phase then fresh_fits d else not (is_some (first_rule d))

-- the voting state and the table
unfoldable pub desk_fits : Desk → Bool
desk_fits d =
    roll_fits d.state.roll &&
    own_fits d.state.roll &&
    eqb (length d.table) table_length &&
    ltb (current d) d.rounds &&
    ltb (settled_round d.state.progress.phase) d.rounds &&
    all_below d.rounds (λ r. round_fits d r) &&
    held_fits (current d) d.state.progress.locked &&
    held_fits (current d) d.state.progress.valid &&
    at_rest d

-- To compute with this file: `unfolding the_possible` opens the above.
unfoldable pub the_possible : Unit {0}
unfolding round_fits fresh_fits at_rest desk_fits
the_possible = tt
