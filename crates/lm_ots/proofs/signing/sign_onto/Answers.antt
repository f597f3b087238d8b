use Rattle.std.proofs.Common.{◌≡◌, ◌++◌, append_assoc, ap, sym, arith}
use Rattle.std.proofs.lemmas.List.{append-nil}
use Rattle.vo_spec.specs.Bytes.{u32_bytes, join_pieces}
use Rattle.vo_spec.specs.OtsSets.{count_of, ots_code_of}
use Rattle.vo_spec.specs.Ots.{signed_value, ots_signature, randomizer, digits_of}
use Rattle.lm_ots.proofs.Pieces.{joined_on}
use Rattle.lm_ots.proofs.signing.sign_onto.Goals as goal

pub loop-i-init : goal.loop-i-init
unfolding join_pieces
loop-i-init c = rw (append-nil, ← c.randomizer-random.ensures) c.in_ok-signed.ensures

pub loop-i-preserved : goal.loop-i-preserved
loop-i-preserved c =
    let front = c.args.bytes.items ++ u32_bytes (ots_code_of c.args.ots) ++ randomizer c.args.id.now c.args.q c.args.seed.now in
    let values = signed_value c.args.id.now c.args.q c.args.ots c.args.seed.now c.digits_of-digits.result in
    rw (c.in_ok-extend_from_slice.ensures.items, c.as_bytes.ensures.value, c.signed_value.ensures, c.loop-i.invariant)
    (joined_on front values c.loop-i.i)

pub returns : goal.returns
unfolding ots_signature
returns c =
    let random = randomizer c.args.id.now c.args.q c.args.seed.now in
    let digits = digits_of c.args.id.now c.args.q c.args.ots random c.args.message.now in
    let code = u32_bytes (ots_code_of c.args.ots) in
    let values = join_pieces (signed_value c.args.id.now c.args.q c.args.ots c.args.seed.now digits) (count_of c.args.ots) in
    let all : c.loop-i.i ≡ count_of c.args.ots = omega arith in
    let made = rw (all, c.digits_of-digits.ensures, c.randomizer-random.ensures) at c.loop-i.invariant in
    rw (made, append_assoc (c.args.bytes.items ++ code) random values, append_assoc c.args.bytes.items code (random ++ values))
    (ap (λ rest. c.args.bytes.items ++ rest) (sym (append_assoc code random values)))
