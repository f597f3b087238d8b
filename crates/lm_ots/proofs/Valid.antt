-- What is signed has the form of a signature, and leads to the public key.
use Rattle.std.proofs.Common.{◌≡◌, ℕ, ◌+◌, ◌-◌, ◌*◌, ◌/◌, ◌%◌, ◌^◌, ◌<◌, List, [], ◌++◌, length, refl, sym, append_assoc, lit<}
use Rattle.std.specs.Prelude.{true, slice_index}
use Rattle.std.proofs.lemmas.Bool.{and_from, eq-eqb}
use Rattle.std.proofs.lemmas.List.{append-nil, length-append}
use Rattle.std.proofs.lemmas.Nat.{and_le_l}
use Rattle.tagged_hash.proofs.Lengths.{length-sha256}
use Rattle.vo_spec.specs.declared.signatures.OtsType.{OtsType}
use Rattle.vo_spec.specs.declared.signatures.OtsType.TheVariants.{W1, W2, W4, W8}
use Rattle.vo_spec.specs.Bytes.{u32_bytes, u32_at, digest_at, join_pieces}
use Rattle.vo_spec.specs.OtsSets.{ots_code_of, count_of, width_of, ots_signature_len}
use Rattle.vo_spec.specs.Ots.{coef, step_text, secret, randomizer, digits_of, signed_value, public_end, candidate_end, ots_signature, ots_candidate, ots_public, is_ots_form}
use Rattle.lm_ots.proofs.Chaining.{advance_rest, length-advance}
use Rattle.lm_ots.proofs.Pieces.{length-u32_bytes, length-join_pieces, joined_same, digest_at-middle, digest_at-join_pieces, u32_at-front}

code_fits : (ots : OtsType) → ots_code_of ots < 2 ^ 32
code_fits W1 = lit< tt
code_fits W2 = lit< tt
code_fits W4 = lit< tt
code_fits W8 = lit< tt

-- the typecode and the randomizer, with which a signature begins
abbrev front_of : List ℕ → ℕ → OtsType → List ℕ → List ℕ
front_of id q ots seed = u32_bytes (ots_code_of ots) ++ randomizer id q seed

length-front_of : (id : List ℕ) (q : ℕ) (ots : OtsType) (seed : List ℕ) → length (front_of id q ots seed) ≡ 36
length-front_of id q ots seed =
    rw (length-append, length-u32_bytes, length-sha256 (step_text id q 0xfffd 0xff seed)) refl

length-signed_value : (id : List ℕ) (q : ℕ) (ots : OtsType) (seed digits : List ℕ) (i : ℕ)
    → length (signed_value id q ots seed digits i) ≡ 32
length-signed_value id q ots seed digits i =
    length-advance id q i 0 (coef digits i (width_of ots)) (secret id q seed i)
    (length-sha256 (step_text id q i 0xff seed))

pub length-ots_signature : (id : List ℕ) (q : ℕ) (ots : OtsType) (seed message : List ℕ)
    → length (ots_signature id q ots seed message) ≡ ots_signature_len ots
unfolding ots_signature
length-ots_signature id q ots seed message =
    let digits = digits_of id q ots (randomizer id q seed) message in
    let values = length-join_pieces (signed_value id q ots seed digits) (count_of ots) (length-signed_value id q ots seed digits) in
    rw (length-append, length-front_of id q ots seed, values) refl

pub signed_form : (id : List ℕ) (q : ℕ) (ots : OtsType) (seed message : List ℕ)
    → is_ots_form ots (ots_signature id q ots seed message) ≡ true
unfolding is_ots_form ots_signature
signed_form id q ots seed message =
    let random = randomizer id q seed in
    let values = join_pieces (signed_value id q ots seed (digits_of id q ots random message)) (count_of ots) in
    let code : u32_at (front_of id q ots seed ++ values) 0 ≡ ots_code_of ots =
    rw (append_assoc (u32_bytes (ots_code_of ots)) random values)
    (u32_at-front (ots_code_of ots) (random ++ values) (code_fits ots)) in
    and_from _ _
    (eq-eqb _ _ (length-ots_signature id q ots seed message))
    (eq-eqb _ _ code)

-- the randomizer stands behind the typecode
pub random_at : (id : List ℕ) (q : ℕ) (ots : OtsType) (seed message : List ℕ)
    → digest_at (ots_signature id q ots seed message) 4 ≡ randomizer id q seed
unfolding ots_signature
random_at id q ots seed message =
    let random = randomizer id q seed in
    let values = join_pieces (signed_value id q ots seed (digits_of id q ots random message)) (count_of ots) in
    digest_at-middle (u32_bytes (ots_code_of ots)) random values 4
    (length-sha256 (step_text id q 0xfffd 0xff seed)) (sym (length-u32_bytes (ots_code_of ots)))

-- the value of chain i stands at its place
pub value_at : (id : List ℕ) (q : ℕ) (ots : OtsType) (seed message : List ℕ) (i : ℕ) → i < count_of ots
    → digest_at (ots_signature id q ots seed message) (36 + 32 * i)
    ≡ signed_value id q ots seed (digits_of id q ots (randomizer id q seed) message) i
unfolding ots_signature
value_at id q ots seed message i below =
    let digits = digits_of id q ots (randomizer id q seed) message in
    let values = signed_value id q ots seed digits in
    let front = front_of id q ots seed in
    let place : 36 + 32 * i ≡ length front + 32 * i = rw (length-front_of id q ots seed) refl in
    let found = digest_at-join_pieces front [] values (count_of ots) i (36 + 32 * i)
    (length-signed_value id q ots seed digits) below place in
    rw append-nil at found

-- from the value that is signed, a chain leads to its end
end_reached : (id : List ℕ) (q : ℕ) (ots : OtsType) (seed message : List ℕ) (i : ℕ) → i < count_of ots
    → candidate_end id q ots (digits_of id q ots (randomizer id q seed) message) (ots_signature id q ots seed message) i
    ≡ public_end id q ots seed i
end_reached id q ots seed message i below =
    let digits = digits_of id q ots (randomizer id q seed) message in
    rw (value_at id q ots seed message i below)
    (advance_rest id q i (coef digits i (width_of ots)) (2 ^ width_of ots - 1) (secret id q seed i)
    (and_le_l (2 ^ width_of ots - 1) (slice_index digits (i * width_of ots / 8) / 2 ^ (8 - (width_of ots * (i % (8 / width_of ots)) + width_of ots)))))

pub signed_leads : (id : List ℕ) (q : ℕ) (ots : OtsType) (seed message : List ℕ)
    → ots_candidate id q ots message (ots_signature id q ots seed message) ≡ ots_public id q ots seed
unfolding ots_candidate ots_public
signed_leads id q ots seed message =
    let digits = digits_of id q ots (randomizer id q seed) message in
    let ends = joined_same (candidate_end id q ots digits (ots_signature id q ots seed message)) (public_end id q ots seed)
    (count_of ots) (end_reached id q ots seed message) in
    rw (random_at id q ots seed message, ends) refl
