-- 01's examples: those that it marks "P:", and the others of the same four kiosks, each with its whole reply. Assumes nothing.
use Rattle.std.specs.Prelude.{ℕ, ◌≡◌, List, [], ◌∷◌, ◌++◌, true, false, take}
use Rattle.roll.proofs.Examples.{Weighed, weighings, weighs_so}
use Rattle.rules.specs.declared.Phase.TheVariants.{Running}
use Rattle.rules.specs.declared.Step.TheVariants.{Propose, Prevote, Precommit}
use Rattle.rules.proofs.Whole.{at, table, held, log, stand, state, out}
use Rattle.rules.proofs.Stories.{four, none, locks, skips}
use Rattle.journal.specs.Layout.{roomy}
use Rattle.journal.proofs.Journals.{journal_107}
use Rattle.refusals.specs.declared.Answer.TheVariants.{Accepted, HeaderShort, Damaged}
use Rattle.kiosk.specs.declared.Reply.{Reply}
use Rattle.examples.specs.Cases.{All, Opening, opens}
use Rattle.examples.specs.Whole.{kiosk, reply, unopened, Telling, tells, filled}
use Rattle.examples.specs.Kiosk.{OpeningSo, TellingSo}
use Rattle.journal.proofs.Journals.{header, starts, proposed_50, prevoted_by_1, prevoted_by_2, nil_from_1, nil_from_2, timed_out, proposed_60, prevote_ahead, precommit_ahead, called_ahead}
use Rattle.listing.specs.Listing.{listing}
use Rattle.listing.proofs.Texts.{Listed, lists, text_107}

-- ## "Four kiosks of power 1, height 1, own number 0, offer 9, start at first"

-- "start: ask propose 0."
abbrev pub started : Telling
started =
    tells (take 1 locks)
    (reply Accepted (out 4 0 0 0 ∷ []) (kiosk (state four Running (stand 0 Propose true false false false) none none (log [] [] [] [])) 53 15))
    (table [])
    (filled (header ++ starts))
    starts

-- "Then proposal from 1, name 50, verdict 1, valid round -1: P: prevote 50."
abbrev pub prevotes_50 : Telling
prevotes_50 =
    tells (take 2 locks)
    (reply Accepted (out 2 0 0 50 ∷ [])
    (kiosk (state four Running (stand 0 Prevote true false false false) none none (log (at 0 1 ∷ []) [] (at 0 2 ∷ []) [])) 91 53))
    (table (at 0 50 ∷ at 1 50 ∷ []))
    (filled (header ++ starts ++ proposed_50))
    proposed_50

-- "Prevotes 50 from 1, then 2: the second gives P: ask prevote, precommit 50."
abbrev pub precommits_50 : Telling
precommits_50 =
    tells (take 4 locks)
    (reply Accepted (out 5 0 0 0 ∷ out 3 0 0 50 ∷ [])
    (kiosk (state four Running (stand 0 Precommit true true false true) (held 1 50) (held 1 50) (log (at 0 7 ∷ []) (at 0 1 ∷ []) (at 0 2 ∷ []) [])) 167 117))
    (table (at 0 50 ∷ at 1 50 ∷ at 2 50 ∷ at 3 50 ∷ at 33 50 ∷ []))
    (filled (header ++ starts ++ proposed_50 ++ prevoted_by_1 ++ prevoted_by_2))
    prevoted_by_2

-- "Precommits nil from 1, 2: the second gives ask precommit."
abbrev pub asks_precommit : Telling
asks_precommit =
    tells (take 6 locks)
    (reply Accepted (out 6 0 0 0 ∷ [])
    (kiosk (state four Running (stand 0 Precommit true true true true) (held 1 50) (held 1 50) (log (at 0 7 ∷ []) (at 0 7 ∷ []) (at 0 2 ∷ []) [])) 231 193))
    (table (at 0 50 ∷ at 1 50 ∷ at 2 50 ∷ at 3 50 ∷ at 33 50 ∷ []))
    (filled (header ++ starts ++ proposed_50 ++ prevoted_by_1 ++ prevoted_by_2 ++ nil_from_1 ++ nil_from_2))
    nil_from_2

-- "Its timer: round 1, ask propose."
abbrev pub enters_1 : Telling
enters_1 =
    tells (take 7 locks)
    (reply Accepted (out 4 1 0 0 ∷ [])
    (kiosk (state four Running (stand 1 Propose true false false false) (held 1 50) (held 1 50) (log (at 0 7 ∷ []) (at 0 7 ∷ []) (at 0 2 ∷ []) [])) 269 231))
    (table (at 0 50 ∷ at 1 50 ∷ at 2 50 ∷ at 3 50 ∷ at 33 50 ∷ []))
    (filled (header ++ starts ++ proposed_50 ++ prevoted_by_1 ++ prevoted_by_2 ++ nil_from_1 ++ nil_from_2 ++ timed_out))
    timed_out

-- "Proposal 60 from 2, round 1, valid round -1: P: prevote nil."
abbrev pub prevotes_nil : Telling
prevotes_nil =
    tells locks
    (reply Accepted (out 2 1 0 0 ∷ [])
    (kiosk
    (state four Running (stand 1 Prevote true false false false) (held 1 50) (held 1 50)
    (log (at 0 7 ∷ at 1 1 ∷ []) (at 0 7 ∷ []) (at 0 2 ∷ at 1 2 ∷ []) []))
    307 269))
    (table (at 0 50 ∷ at 1 50 ∷ at 2 50 ∷ at 3 50 ∷ at 33 50 ∷ at 65 60 ∷ []))
    (filled (header ++ starts ++ proposed_50 ++ prevoted_by_1 ++ prevoted_by_2 ++ nil_from_1 ++ nil_from_2 ++ timed_out ++ proposed_60))
    proposed_60

-- "Fresh start instead; from 2 a nil prevote and a nil precommit of round 3: no output."
abbrev pub stays : Telling
stays =
    tells (take 3 skips)
    (reply Accepted []
    (kiosk (state four Running (stand 0 Propose true false false false) none none (log (at 3 4 ∷ []) (at 3 4 ∷ []) [] [])) 105 79))
    (table [])
    (filled (header ++ starts ++ prevote_ahead ++ precommit_ahead))
    precommit_ahead

-- "Nil prevote of round 3 from 3: P: proposal 9 of round 3, prevote 9, ask prevote (62 bytes)."
abbrev pub enters_3 : Telling
enters_3 =
    tells skips
    (reply Accepted (out 1 3 0 9 ∷ out 2 3 0 9 ∷ out 5 3 0 0 ∷ [])
    (kiosk (state four Running (stand 3 Prevote false true false false) none none (log (at 3 13 ∷ []) (at 3 4 ∷ []) (at 3 2 ∷ []) [])) 167 105))
    (table (at 195 9 ∷ at 196 9 ∷ []))
    (filled (header ++ starts ++ prevote_ahead ++ precommit_ahead ++ called_ahead))
    called_ahead

-- ## All of them

-- "journal room for n 4 is 5,147": the number of kiosks, and the size
pub record Room : Type 0 where
  pub kiosks : ℕ
  pub size : ℕ

pub record Examples : Type 0 where
  pub weighed : List Weighed
  pub rooms : List Room
  pub openings : List (Opening Reply)
  pub tellings : List Telling
  pub listings : List Listed

-- what holds of each
pub record Hold (e : Examples) : Type 0 where
  pub weighed_so : All (λ (w : Weighed). weighs_so w ≡ true) e.weighed
  pub rooms_so : All (λ (r : Room). roomy r.kiosks ≡ r.size) e.rooms
  pub openings_so : All OpeningSo e.openings
  pub tellings_so : All TellingSo e.tellings
  pub listings_so : All (λ (l : Listed). listing l.journal ≡ l.text) e.listings

-- "no bytes, 13"; "first byte 33, 14 at 0"
unfoldable pub examples : Examples
examples = record {
  weighed = weighings;
  rooms = record { kiosks = 4; size = 5147 } ∷ [];
  openings =
      opens [] 0 (table []) (reply HeaderShort [] unopened) (table []) ∷
      opens (33 ∷ []) 1 (table []) (reply (Damaged 0) [] unopened) (table []) ∷
      [];
  tellings = started ∷ prevotes_50 ∷ precommits_50 ∷ asks_precommit ∷ enters_1 ∷ prevotes_nil ∷ stays ∷ enters_3 ∷ [];
  listings = lists journal_107 text_107 ∷ [];
}
