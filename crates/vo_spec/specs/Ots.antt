-- One-time signatures, LM-OTS over SHA-256 with n = 32 (RFC 8554, section 4). A key pair is named
-- by the identifier I of its tree and its leaf's number q. Secrets are made from a seed as in
-- appendix A.
use Rattle.std.specs.Prelude.{◌==◌, ℕ, zero, suc, ◌+◌, ◌-◌, ◌*◌, ◌/◌, ◌%◌, ◌^◌, Bool, ◌&&◌, List, [], ◌∷◌, ◌++◌, length, bit_and, slice_index}
use Rattle.sha2.specs.Sha256.{sha256}
use Rattle.vo_spec.specs.declared.signatures.OtsType.{OtsType}
use Rattle.vo_spec.specs.OtsSets.{ots_code_of, width_of, count_of, shift_of, ots_signature_len}
use Rattle.vo_spec.specs.Bytes.{u16_bytes, u32_bytes, u32_at, digest_at, join_pieces}

-- digit i of width w of a byte string (3.1.3)
abbrev pub coef : List ℕ → ℕ → ℕ → ℕ
coef bytes i w = bit_and (2 ^ w - 1)
    (slice_index bytes (i * w / 8) / 2 ^ (8 - (w * (i % (8 / w)) + w)))

-- by how much the first n digits of a digest fall short of the greatest digit, together
unfoldable pub shortfall : List ℕ → ℕ → ℕ → ℕ
shortfall digest w zero = 0
shortfall digest w (suc n) = shortfall digest w n + (2 ^ w - 1 - coef digest n w)

-- Cksm (4.4): what all digits fall short by, shifted left
unfoldable pub checksum_of : OtsType → List ℕ → ℕ
checksum_of ots digest = shortfall digest (width_of ots) (256 / width_of ots) * 2 ^ shift_of ots

-- a message's digest followed by its checksum, whose digits are signed
unfoldable pub with_checksum : OtsType → List ℕ → List ℕ
with_checksum ots digest = digest ++ u16_bytes (checksum_of ots digest)

-- what is hashed at step j of chain i
unfoldable pub step_text : List ℕ → ℕ → ℕ → ℕ → List ℕ → List ℕ
step_text id q i j value = id ++ u32_bytes q ++ u16_bytes i ++ j ∷ [] ++ value

-- the value of chain i after step j
abbrev pub step : List ℕ → ℕ → ℕ → ℕ → List ℕ → List ℕ
step id q i j value = sha256 (step_text id q i j value)

-- the value of chain i after n steps, the first of them step `from`
unfoldable pub advance : List ℕ → ℕ → ℕ → ℕ → ℕ → List ℕ → List ℕ
advance id q i from zero value = value
advance id q i from (suc n) value = step id q i (from + n) (advance id q i from n value)

-- the secret start of chain i (appendix A)
abbrev pub secret : List ℕ → ℕ → List ℕ → ℕ → List ℕ
secret id q seed i = step id q i 0xff seed

-- the randomizer C. It is made from the seed too, so that one message by one leaf always has one
-- signature
abbrev pub randomizer : List ℕ → ℕ → List ℕ → List ℕ
randomizer id q seed = step id q 0xfffd 0xff seed

-- what is hashed for a message's digest: D_MESG is 8181
unfoldable pub message_text : List ℕ → ℕ → List ℕ → List ℕ → List ℕ
message_text id q random message = id ++ u32_bytes q ++ u16_bytes 0x8181 ++ random ++ message

-- the digits that are signed, as bytes: Q and its checksum
unfoldable pub digits_of : List ℕ → ℕ → OtsType → List ℕ → List ℕ → List ℕ
digits_of id q ots random message = with_checksum ots (sha256 (message_text id q random message))

-- what is hashed for a public key, from the ends of all chains: D_PBLC is 8080
unfoldable pub public_text : List ℕ → ℕ → List ℕ → List ℕ
public_text id q ends = id ++ u32_bytes q ++ u16_bytes 0x8080 ++ ends

-- the end of chain i
abbrev pub public_end : List ℕ → ℕ → OtsType → List ℕ → ℕ → List ℕ
public_end id q ots seed i = advance id q i 0 (2 ^ width_of ots - 1) (secret id q seed i)

-- the public key K (4.3)
unfoldable pub ots_public : List ℕ → ℕ → OtsType → List ℕ → List ℕ
ots_public id q ots seed = sha256
    (public_text id q (join_pieces (public_end id q ots seed) (count_of ots)))

-- what a signature releases of chain i, where these digits are signed
abbrev pub signed_value : List ℕ → ℕ → OtsType → List ℕ → List ℕ → ℕ → List ℕ
signed_value id q ots seed digits i =
    advance id q i 0 (coef digits i (width_of ots)) (secret id q seed i)

-- the signature (4.5): the typecode, C, and a value of each chain
unfoldable pub ots_signature : List ℕ → ℕ → OtsType → List ℕ → List ℕ → List ℕ
ots_signature id q ots seed message =
    let random = randomizer id q seed in
    let digits = digits_of id q ots random message in
    u32_bytes (ots_code_of ots) ++ random
    ++ join_pieces (signed_value id q ots seed digits) (count_of ots)

-- a signature's length and typecode are the set's
unfoldable pub is_ots_form : OtsType → List ℕ → Bool
is_ots_form ots signature = (length signature == ots_signature_len ots)
    && (u32_at signature 0 == ots_code_of ots)

-- the end of chain i that a signature leads to
abbrev pub candidate_end : List ℕ → ℕ → OtsType → List ℕ → List ℕ → ℕ → List ℕ
candidate_end id q ots digits signature i =
    let digit = coef digits i (width_of ots) in
    advance id q i digit (2 ^ width_of ots - 1 - digit) (digest_at signature (36 + 32 * i))

-- the public key that a signature leads to (algorithm 4b)
unfoldable pub ots_candidate : List ℕ → ℕ → OtsType → List ℕ → List ℕ → List ℕ
ots_candidate id q ots message signature =
    let digits = digits_of id q ots (digest_at signature 4) message in
    sha256 (public_text id q (join_pieces (candidate_end id q ots digits signature) (count_of ots)))
