-- The goals of `saying::accepted_text`: the token holds a group of few outputs. Assumes nothing.
use Rattle.std.proofs.Common.{◌+◌, ◌*◌, ◌≤◌, ◌≡◌, ap, ◌∙◌, arith, length, length-take}
use borrow.Author.Rules.{rules}
use Rattle.rules.specs.InContracts.Ready.{so_far}
use Rattle.journal.specs.Readback.{count_of}
use Rattle.journal.proofs.Roundtrip.{length_group}
use Rattle.saying.proofs.Rooms.{count_back}
use Rattle.saying.proofs.accepted_text.Goals as goal

pub group_text-requires : goal.group_text-requires
group_text-requires c =
    let a = c.args in
    let os = so_far a.sent in
    let group = c.bytes.ensures.value ∙ c.requires.2 in
    let six : length a.sent.list ≡ 6 = search rules in
    let few : length os ≤ 6 = omega (arith, length-take a.sent.count a.sent.list, six) in
    let size : length c.bytes.result.now ≡ 26 + 12 * length os = ap length group ∙ length_group a.i os in
    let count : count_of c.bytes.result.now ≡ length os = ap count_of group ∙ count_back a.i os in
    (omega (arith, size), omega (arith, count, few))
