-- The board's functions by which a C caller sees where its fields are, on twins with a different number in every field; the page of a
-- listing; and what is said again in a lent area. Assumes nothing.
use Rattle.std.specs.Prelude.{ℕ, ◌≡◌, List, [], ◌∷◌, ◌++◌, replicate}
use Rattle.rules.proofs.Whole.{table, roll, held, log}
use Rattle.journal.proofs.Journals.{header, starts}
use Rattle.flat.specs.declared.FlatKiosk.{FlatKiosk}
use Rattle.flat.specs.declared.FlatInput.{FlatInput}
use Rattle.flat.specs.declared.FlatReply.{FlatReply}
use Rattle.listing.proofs.Texts.{refused_13}
use Rattle.flat.specs.declared.FlatPage.{FlatPage}
use Rattle.board.specs.Board.{Lists, board_list, SaysAgain, board_again}
use Rattle.flat.specs.Fields.{kiosk_number, input_number, layout}
use Rattle.examples.specs.Cases.{All}
use Rattle.examples.specs.Flat.{out, kiosk, reply}

abbrev pub numbered : FlatKiosk
numbered = record {
  kiosks = 101;
  own = 102;
  used = 103;
  last = 104;
  locked_name = 105;
  valid_name = 106;
  height = 107;
  powers = 201 ∷ 202 ∷ 203 ∷ 204 ∷ 205 ∷ 206 ∷ 207 ∷ 208 ∷ 209 ∷ 210 ∷ 211 ∷ 212 ∷ 213 ∷ 214 ∷ 215 ∷ 216 ∷ 217 ∷ 218 ∷ 219 ∷ 220 ∷ 221 ∷ 222 ∷ 223 ∷ 224 ∷ 225 ∷ 226 ∷ 227 ∷ 228 ∷ 229 ∷ 230 ∷ 231 ∷ 232 ∷ [];
  phase = 109;
  settled = 110;
  round = 111;
  step = 112;
  asked_propose = 113;
  asked_prevote = 114;
  asked_precommit = 115;
  backed = 116;
  locked_next = 117;
  valid_next = 118;
  log = 301 ∷ 302 ∷ 303 ∷ 304 ∷ 305 ∷ 306 ∷ 307 ∷ 308 ∷ 309 ∷ 310 ∷ 311 ∷ 312 ∷ 313 ∷ 314 ∷ 315 ∷ 316 ∷ 317 ∷ 318 ∷ 319 ∷ 320 ∷ 321 ∷ 322 ∷ 323 ∷ 324 ∷ 325 ∷ 326 ∷ 327 ∷ 328 ∷ 329 ∷ 330 ∷ 331 ∷ 332 ∷ 333 ∷ 334 ∷ 335 ∷ 336 ∷ 337 ∷ 338 ∷ 339 ∷ 340 ∷ 341 ∷ 342 ∷ 343 ∷ 344 ∷ 345 ∷ 346 ∷ 347 ∷ 348 ∷ 349 ∷ 350 ∷ 351 ∷ 352 ∷ 353 ∷ 354 ∷ 355 ∷ 356 ∷ 357 ∷ 358 ∷ 359 ∷ 360 ∷ 361 ∷ 362 ∷ 363 ∷ 364 ∷ [];
}

abbrev pub numbered_input : FlatInput
numbered_input = record {
  name = 501;
  offer = 502;
  height = 503;
  kind = 504;
  sender = 505;
  round = 506;
  valid = 507;
  verdict = 508;
}

-- field, index, number: "an index" matters to arrays alone
pub record Number : Type 0 where
  pub field : ℕ
  pub index : ℕ
  pub number : ℕ

abbrev pub at_field : ℕ → ℕ → ℕ → Number
at_field field index number = record { field = field; index = index; number = number }

unfoldable pub numbers : List Number
numbers =
    at_field 0 0 101 ∷
    at_field 0 40 101 ∷
    at_field 1 0 102 ∷
    at_field 1 40 102 ∷
    at_field 2 0 103 ∷
    at_field 2 40 103 ∷
    at_field 3 0 104 ∷
    at_field 3 40 104 ∷
    at_field 4 0 105 ∷
    at_field 4 40 105 ∷
    at_field 5 0 106 ∷
    at_field 5 40 106 ∷
    at_field 6 0 107 ∷
    at_field 6 40 107 ∷
    at_field 7 0 201 ∷
    at_field 7 1 202 ∷
    at_field 7 30 231 ∷
    at_field 7 31 232 ∷
    at_field 7 32 0 ∷
    at_field 7 41 0 ∷
    at_field 8 0 109 ∷
    at_field 8 40 109 ∷
    at_field 9 0 110 ∷
    at_field 9 40 110 ∷
    at_field 10 0 111 ∷
    at_field 10 40 111 ∷
    at_field 11 0 112 ∷
    at_field 11 40 112 ∷
    at_field 12 0 113 ∷
    at_field 12 40 113 ∷
    at_field 13 0 114 ∷
    at_field 13 40 114 ∷
    at_field 14 0 115 ∷
    at_field 14 40 115 ∷
    at_field 15 0 116 ∷
    at_field 15 40 116 ∷
    at_field 16 0 117 ∷
    at_field 16 40 117 ∷
    at_field 17 0 118 ∷
    at_field 17 40 118 ∷
    at_field 18 0 301 ∷
    at_field 18 1 302 ∷
    at_field 18 62 363 ∷
    at_field 18 63 364 ∷
    at_field 18 64 0 ∷
    at_field 18 73 0 ∷
    at_field 19 0 0 ∷
    at_field 19 15 0 ∷
    at_field 40 3 0 ∷
    []

unfoldable pub input_numbers : List Number
input_numbers =
    at_field 0 0 501 ∷
    at_field 1 0 502 ∷
    at_field 2 0 503 ∷
    at_field 3 0 504 ∷
    at_field 4 0 505 ∷
    at_field 5 0 506 ∷
    at_field 6 0 507 ∷
    at_field 7 0 508 ∷
    at_field 8 0 0 ∷
    []

-- the first number, and the reply in which each next field has one more: "a first number over 200 counts as 200"
pub record Laid : Type 0 where
  pub from : ℕ
  pub reply : FlatReply

unfoldable pub layouts : List Laid
layouts =
    record {
      from = 0;
      reply = record {
        number = 0;
        place = 1;
        count = 2;
        sent = out 4 5 6 3 ∷ out 8 9 10 7 ∷ out 12 13 14 11 ∷ out 16 17 18 15 ∷ out 20 21 22 19 ∷ out 24 25 26 23 ∷ [];
        kiosk = numbered;
      };
    } ∷
    record {
      from = 199;
      reply = record {
        number = 199;
        place = 200;
        count = 201;
        sent = out 203 204 205 202 ∷ out 207 208 209 206 ∷ out 211 212 213 210 ∷ out 215 216 217 214 ∷ out 219 220 221 218 ∷ out 223 224 225 222 ∷ [];
        kiosk = numbered;
      };
    } ∷
    record {
      from = 201;
      reply = record {
        number = 200;
        place = 201;
        count = 202;
        sent = out 204 205 206 203 ∷ out 208 209 210 207 ∷ out 212 213 214 211 ∷ out 216 217 218 215 ∷ out 220 221 222 219 ∷ out 224 225 226 223 ∷ [];
        kiosk = numbered;
      };
    } ∷
    []

-- a journal's bytes, the area before, the page, the area after
pub record Paged : Type 0 where
  pub journal : List ℕ
  pub text : List ℕ
  pub page : FlatPage
  pub text_after : List ℕ

unfoldable pub pages : List Paged
pages =
    record { journal = []; text = replicate 114197 7; page = record { number = 0; size = 11 }; text_after = refused_13 ++ replicate 114186 7 } ∷
    record { journal = []; text = 7 ∷ []; page = record { number = 12; size = 0 }; text_after = 7 ∷ [] } ∷
    []

-- a journal, its used length, the table and the area before, the reply, the table and the area after
pub record Said : Type 0 where
  pub journal : List ℕ
  pub used : ℕ
  pub table : List ℕ
  pub area : List ℕ
  pub reply : FlatReply
  pub table_after : List ℕ
  pub area_after : List ℕ

-- four kiosks, started, and a byte after it; the propose timer is asked for again where the area has 14 bytes
abbrev pub says : List ℕ → ℕ → List ℕ → Said
says area number area_after = record {
  journal = header ++ starts ++ (24 ∷ []);
  used = 53;
  table = replicate 1040 7;
  area = area;
  reply = reply number 0 [] (kiosk (roll 4 (1 ∷ 1 ∷ 1 ∷ 1 ∷ []) 0 1) 1 0 0 0 1 0 0 0 (held 0 0) (held 0 0) (log [] [] [] []) 53 15);
  table_after = table [];
  area_after = area_after;
}

unfoldable pub sayings : List Said
sayings =
    says (replicate 15 7) 0 (0 ∷ 1 ∷ 4 ∷ 0 ∷ 0 ∷ 0 ∷ 0 ∷ 0 ∷ 0 ∷ 0 ∷ 0 ∷ 0 ∷ 0 ∷ 0 ∷ 7 ∷ []) ∷
    says (replicate 13 7) 12 (replicate 13 7) ∷
    []

pub record Seen : Type 0 where
  pub numbers_so : All (λ (c : Number). kiosk_number numbered c.field c.index ≡ c.number) numbers
  pub input_numbers_so : All (λ (c : Number). input_number numbered_input c.field ≡ c.number) input_numbers
  pub layouts_so : All (λ (c : Laid). layout numbered c.from ≡ c.reply) layouts
  pub pages_so : All (λ (c : Paged). Lists (board_list c.journal c.text) c.page c.text_after) pages
  pub sayings_so : All (λ (c : Said). SaysAgain (board_again c.journal c.used c.table c.area) c.reply c.table_after c.area_after) sayings
