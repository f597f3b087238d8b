-- Where each file that the words name is there, the work lacks none.
use Rattle.std.proofs.Common.{◌≡◌, ℕ, ◌==◌, Bool, true, false, List, [], ◌∷◌, Option, Some, None, ap, arith, length, codes, decimal}
use Rattle.std.specs.Prelude.{if◌then◌else◌, IfSome, IsSome, nat_lt}
use Rattle.std.specs.Str.{bytes_eq, is_utf8}
use Rattle.outside.specs.Outputs.{Output, outside_failure}
use Rattle.outside.specs.Shelf.{Files}
use Rattle.vo_spec.specs.Secret.{Secret, public_of_secret}
use Rattle.cli_args.specs.Shapes.{PlainShape}
use Rattle.cli_args.specs.PlainRequest.{PlainRequest, Keygen, Seal, Own, Answer, Serve, Check, Ask, Audit, Explain, Meet, Generate}
use Rattle.vo_spec.specs.Keys.{is_public_key}
use Rattle.vo_commands.specs.Lines.{gen_output, input_refusal, success}
use Rattle.vo_commands.specs.Expected.{Expected, Anything, Exactly, Explains, OfScript, Seals, HoldsEach, file_words, files_of_request, files_expected, with_same_key, script_expected, script_limit, seed_limit, secret_in, with_contents, with_file, with_public, with_secret, words_expected}
use Rattle.vo_commands.specs.Taking.{LacksFile}

-- it isn't what is written of a fault of the outside
other_status : (output : Output) → (output.status ≡ 3 → ⊥) → output ≡ outside_failure → ⊥
other_status output differs e = differs (ap (λ (o : Output). o.status) e)

refused : (words : List (List ℕ)) → input_refusal words ≡ outside_failure → ⊥
refused words e = other_status (input_refusal words) (λ s. absurd (omega (arith, s))) e

-- a test of a file's bytes, which else are refused
tested : (b : Bool) (words : List (List ℕ)) (rest : Expected) → (LacksFile rest → ⊥) → LacksFile (if b then rest else Exactly (input_refusal words)) → ⊥
tested true words rest none lacks = none lacks
tested false words rest none lacks = refused words lacks

limited : (b : Bool) (words : List (List ℕ)) (rest : Expected) → (LacksFile rest → ⊥) → LacksFile (if b then Exactly (input_refusal words) else rest) → ⊥
limited true words rest none lacks = refused words lacks
limited false words rest none lacks = none lacks

-- a file that is there, behind which the work lacks none
there : (found : Option (List ℕ)) (name : List ℕ) (limit : ℕ) (rest : List ℕ → Expected) → IsSome found
    → ((bytes : List ℕ) → LacksFile (rest bytes) → ⊥) → LacksFile (with_contents found name limit rest) → ⊥
there None name limit rest some none lacks = absurd (cc)
there (Some bytes) name limit rest some none lacks =
    limited (nat_lt limit (length bytes)) (codes "file too long" ∷ name ∷ []) (rest bytes) (none bytes) lacks

public : (rest : List ℕ → Expected) → ((key : List ℕ) → LacksFile (rest key) → ⊥) → (bytes : List ℕ) → LacksFile (with_public rest bytes) → ⊥
public rest none bytes lacks = tested (is_public_key bytes) (codes "key file" ∷ []) (rest bytes) (none bytes) lacks

secret : (shape : PlainShape) (rest : Secret → Expected) → ((key : Secret) → LacksFile (rest key) → ⊥) → (bytes : List ℕ) → LacksFile (with_secret shape rest bytes) → ⊥
secret shape rest none bytes lacks =
    tested (length bytes == seed_limit) (codes "seed file" ∷ decimal (length bytes) ∷ []) (rest (secret_in bytes shape)) (none (secret_in bytes shape)) lacks

script : (key : Secret) (bytes : List ℕ) → LacksFile (script_expected key bytes) → ⊥
script key bytes lacks = step (is_utf8 bytes) lacks
  where
    step : (b : Bool) → LacksFile (if b then OfScript bytes (Seals key) else Exactly (input_refusal (codes "not text" ∷ []))) → ⊥
    step true lacks = lacks.2
    step false lacks = refused (codes "not text" ∷ []) lacks

request_lacks_none : (request : PlainRequest) (known : Files) → HoldsEach known (files_of_request request) → LacksFile (files_expected request known) → ⊥
request_lacks_none (Keygen seed shape) known all = there _ _ _ _ all.0 (secret shape (λ key. Exactly (success (public_of_secret key))) (λ key lacks. other_status (success (public_of_secret key)) (λ s. absurd (omega (arith, s))) lacks))
request_lacks_none (Seal seed text shape) known all =
    there _ _ _ _ all.0 (secret shape (λ key. with_file known text script_limit (script_expected key)) (λ key. there _ text script_limit (script_expected key) all.1.0 (script key)))
request_lacks_none (Own seed address text shape) known all =
    there _ _ _ _ all.0 (secret shape (λ _. with_file known text script_limit (λ _. Anything)) (λ key. there _ text script_limit (λ _. Anything) all.1.0 (λ bytes lacks. lacks)))
request_lacks_none (Answer key journal query at) known all = there _ _ _ _ all.0 (public _ (λ k. there _ _ _ _ all.1.0 (λ bytes lacks. lacks.2)))
request_lacks_none (Serve address key journal count) known all = there _ _ _ _ all.0 (public _ (λ k. there _ _ _ _ all.1.0 (λ bytes lacks. lacks)))
request_lacks_none (Check key query reply least) known all = there _ _ _ _ all.0 (public _ (λ k lacks. there _ _ _ _ all.1.0 (λ bytes lacks. lacks) lacks.2))
request_lacks_none (Ask address key query at least) known all = there _ _ _ _ all.0 (public _ (λ k lacks. lacks))
request_lacks_none (Audit key journal query reply) known all =
    there _ _ _ _ all.0 (public _ (λ k. there _ _ _ _ all.1.0 (λ bytes lacks. there _ _ _ _ all.1.1.0 (λ bytes lacks. lacks) lacks.2)))
request_lacks_none (Explain key journal query reply seed shape) known all =
    there _ _ _ _ all.0 (public _ (λ k. there _ _ _ _ all.1.0 (λ j lacks. there _ _ _ _ all.1.1.0
    (λ r. there _ _ _ _ all.1.1.1.0 (secret shape (with_same_key k (λ s. Explains s j lacks.0 r))
    (λ s. tested (bytes_eq (public_of_secret s) k) (codes "seed of another key" ∷ []) (Explains s j lacks.0 r) (λ lacks. lacks))))
    lacks.2)))
request_lacks_none (Meet key query first second) known all =
    there _ _ _ _ all.0 (public _ (λ k lacks. there _ _ _ _ all.1.0 (λ one. there _ _ _ _ all.1.1.0 (λ other lacks. lacks)) lacks.2))
request_lacks_none (Generate steps number) known all = λ lacks. other_status (gen_output steps number) (λ s. absurd (omega (arith, s))) lacks

words_lack_none : (request : Option PlainRequest) (known : Files) → HoldsEach known (file_words request) → LacksFile (words_expected request known) → ⊥
words_lack_none None known all lacks = refused (codes "words" ∷ []) lacks
words_lack_none (Some request) known all lacks = request_lacks_none request known all lacks

-- So where each of them is there, none is missed.
pub none_missed : (request : Option PlainRequest) (files : Option Files) (before after : ℕ)
    → IfSome files (λ known. (LacksFile (words_expected request known) → ⊥) → after ≡ before)
    → IfSome files (λ known. HoldsEach known (file_words request) → after ≡ before)
none_missed request None before after missed = tt
none_missed request (Some known) before after missed = λ all. missed (words_lack_none request known all)
