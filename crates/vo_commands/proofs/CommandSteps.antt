-- Commands over files and texts, step by step.
use Rattle.std.proofs.Common.{◌≡◌, ◌⊎◌, ℕ, List, Option, Some, None, Result, Ok, Err, refl, sym, ap, subst, ◌∙◌}
use mathlib.Core.Logic.{inl, inr}
use Rattle.std.specs.Prelude.{IfSome}
use Rattle.outside.specs.Outputs.{Output}
use Rattle.outside.specs.Shelf.{Files}
use Rattle.vo_spec.specs.Conditions.{Query}
use Rattle.sql_text.specs.Scripts.{IsScript}
use Rattle.vo_spec.specs.declared.checks.Answer.{Answer}
use Rattle.vo_spec.specs.declared.checks.CheckFault.{CheckFault}
use Rattle.vo_spec.specs.declared.checks.CheckFault.TheVariants.{Memory as NoMemoryToCheck}
use Rattle.reply_meeting.specs.declared.meeting.MeetFault.{MeetFault}
use Rattle.reply_meeting.specs.declared.meeting.MeetFault.TheVariants.{Memory as NoMemory}
use Rattle.reply_meeting.specs.declared.meeting.MetReplies.{MetReplies}
use Rattle.reply_meeting.specs.Meetings.{RepliesMeet}
use Rattle.reply_meeting.specs.Views.{met_of}
use Rattle.cli_args.specs.Shapes.{PlainShape}
use Rattle.vo_commands.specs.declared.report.Report.{Report}
use Rattle.vo_commands.specs.declared.report.Stop.{Stop}
use Rattle.vo_commands.specs.declared.report.Stop.TheVariants.{Refused, Outside, Memory}
use Rattle.vo_commands.specs.Lines.{check_output, meet_output}
use Rattle.vo_commands.specs.Reports.{Answers, GoesOn, ReadsText}
use Rattle.vo_spec.specs.declared.tables.Batch.{Batch}
use Rattle.vo_spec.specs.Secret.{Secret}
use Rattle.vo_commands.specs.Texts.{IsQueryText, IsRefusedScript}
use Rattle.vo_commands.specs.Expected.{Allows, Expected, Meets, OfQuery, OfScript, Seals, with_text, with_seed, script_expected, seal_expected, script_limit, Replies, with_key, with_file, answer_expected, reply_limit, journal_limit}

-- what was taken of a file answers for the file
pub of_file : {B : Type 0} (expected : (B → Expected) → Expected) (b : B) (rest : B → Expected) (r : Result Report Stop) → ((rest : B → Expected) → expected rest ≡ rest b) → Answers (rest b) r → Answers (expected rest) r
of_file expected b rest r goes a = subst (λ d. Answers d r) (sym (goes rest)) a

-- and a stop at a file
pub of_stop : {A B : Type 0} (view : A → B) (expected : (B → Expected) → Expected) (stop : Stop) (rest : B → Expected) → GoesOn view expected (Err stop) → Answers (expected rest) (Err stop)
of_stop view expected (Refused report) rest goes = subst (λ d. Answers d (Err (Refused report))) (sym (goes rest)) refl
of_stop view expected Outside rest goes = tt
of_stop view expected Memory rest goes = tt

-- a text's query answers for the text
pub of_query : (text : List ℕ) (q : Query) (rest : Query → Expected) (r : Result Report Stop) → IsQueryText text q → Answers (rest q) r → Answers (OfQuery text rest) r
of_query text q rest (Ok report) is a = inl (q, is, a)
of_query text q rest (Err (Refused report)) is a = inl (q, is, a)
of_query text q rest (Err Outside) is a = tt
of_query text q rest (Err Memory) is a = tt

abbrev KeyIs : List ℕ → List ℕ → Files → Type 0
KeyIs name key known = (rest : List ℕ → Expected) → with_key known name rest ≡ rest key

abbrev FileIs : List ℕ → ℕ → List ℕ → Files → Type 0
FileIs name limit bytes known = (rest : List ℕ → Expected) → with_file known name limit rest ≡ rest bytes

-- what the rest of the work answers to a key and a text's query
module _ (name query key : List ℕ) (q : Query) (is : IsQueryText query q) (rest : Files → List ℕ → Query → Expected) (r : Result Report Stop) where
  abbrev AnswersRest : Files → Type 0
  AnswersRest known = Answers (rest known key q) r

  pub key_and_query_known : (o p : Option Files) → p ≡ o → IfSome o (KeyIs name key) → IfSome p AnswersRest → IfSome o (λ known. Answers (with_key known name (λ x. OfQuery query (rest known x))) r)
  key_and_query_known o p same k a = step o k (subst (λ z. IfSome z AnswersRest) same a)
    where
      step : (o : Option Files) → IfSome o (KeyIs name key) → IfSome o AnswersRest → IfSome o (λ known. Answers (with_key known name (λ x. OfQuery query (rest known x))) r)
      step None k a = tt
      step (Some known) k a =
          of_file (with_key known name) key (λ x. OfQuery query (rest known x)) r k
          (of_query query q (rest known key) r is a)

-- what the rest of the work answers to a text's query
pub query_known : (text : List ℕ) (q : Query) (rest : Files → Query → Expected) (o : Option Files) (r : Result Report Stop) → IsQueryText text q
    → IfSome o (λ known. Answers (rest known q) r) → IfSome o (λ known. Answers (OfQuery text (rest known)) r)
query_known text q rest None r is a = tt
query_known text q rest (Some known) r is a = of_query text q (rest known) r is a

-- what the rest of the work answers to a key and a journal
module _ (name journal key held : List ℕ) (rest : Files → List ℕ → List ℕ → Expected) (r : Result Report Stop) where
  abbrev AnswersBehind : Files → Type 0
  AnswersBehind known = Answers (rest known key held) r

  pub key_and_journal_known : (o p s : Option Files) → p ≡ o → s ≡ p → IfSome o (KeyIs name key) → IfSome p (FileIs journal journal_limit held) → IfSome s AnswersBehind
      → IfSome o (λ known. Answers (with_key known name (λ x. with_file known journal journal_limit (rest known x))) r)
  key_and_journal_known o p s same also k j a = step o k (subst (λ z. IfSome z (FileIs journal journal_limit held)) same j) (subst (λ z. IfSome z AnswersBehind) (also ∙ same) a)
    where
      step : (o : Option Files) → IfSome o (KeyIs name key) → IfSome o (FileIs journal journal_limit held) → IfSome o AnswersBehind
          → IfSome o (λ known. Answers (with_key known name (λ x. with_file known journal journal_limit (rest known x))) r)
      step None k j a = tt
      step (Some known) k j a =
          of_file (with_key known name) key (λ x. with_file known journal journal_limit (rest known x)) r k
          (of_file (with_file known journal journal_limit) held (rest known key) r j a)

-- and to a reply and a seed
module _ (reply seed : List ℕ) (shape : PlainShape) (bytes : List ℕ) (secret : Secret) (rest : List ℕ → Secret → Expected) (r : Result Report Stop) where
  abbrev HasSeed : Files → Type 0
  HasSeed known = (after : Secret → Expected) → with_seed known seed shape after ≡ after secret

  pub reply_and_seed_known : (o p : Option Files) → p ≡ o → IfSome o (FileIs reply reply_limit bytes) → IfSome p HasSeed → Answers (rest bytes secret) r
      → IfSome o (λ known. Answers (with_file known reply reply_limit (λ b. with_seed known seed shape (rest b))) r)
  reply_and_seed_known o p same f k a = step o f (subst (λ z. IfSome z HasSeed) same k)
    where
      step : (o : Option Files) → IfSome o (FileIs reply reply_limit bytes) → IfSome o HasSeed → IfSome o (λ known. Answers (with_file known reply reply_limit (λ b. with_seed known seed shape (rest b))) r)
      step None f k = tt
      step (Some known) f k =
          of_file (with_file known reply reply_limit) bytes (λ b. with_seed known seed shape (rest b)) r f
          (of_file (with_seed known seed shape) secret (rest bytes) r k a)

module _ (name journal query : List ℕ) (at : Option ℕ) (key held : List ℕ) where
  pub answer_known : (o p : Option Files) (r : Result Report Stop) → p ≡ o → IfSome o (KeyIs name key) → IfSome p (FileIs journal journal_limit held)
      → Answers (OfQuery query (λ z. Replies key held at z)) r → IfSome o (λ known. Answers (answer_expected name journal query at known) r)
  answer_known o p r same k j a = step o k (subst (λ z. IfSome z (FileIs journal journal_limit held)) same j)
    where
      step : (o : Option Files) → IfSome o (KeyIs name key) → IfSome o (FileIs journal journal_limit held) → IfSome o (λ known. Answers (answer_expected name journal query at known) r)
      step None k j = tt
      step (Some known) k j =
          of_file (with_key known name) key (λ x. with_file known journal journal_limit (λ y. OfQuery query (λ z. Replies x y at z))) r k
          (of_file (with_file known journal journal_limit) held (λ y. OfQuery query (λ z. Replies key y at z)) r j a)

-- Scripts.

of_script : (text : List ℕ) (batches : List Batch) (rest : List Batch → Expected) (r : Result Report Stop) → IsScript text batches → Answers (rest batches) r → Answers (OfScript text rest) r
of_script text batches rest (Ok report) is a = inl (batches, is, a)
of_script text batches rest (Err (Refused report)) is a = inl (batches, is, a)
of_script text batches rest (Err Outside) is a = tt
of_script text batches rest (Err Memory) is a = tt

of_no_script : {A : Type 0} (view : A → List Batch) (text : List ℕ) (stop : Stop) (rest : List Batch → Expected) → ReadsText view (IsScript text) (IsRefusedScript text) (Err stop) → Answers (OfScript text rest) (Err stop)
of_no_script view text (Refused report) rest reads = inr (reads.0, reads.1)
of_no_script view text Outside rest reads = tt
of_no_script view text Memory rest reads = tt

abbrev TextIs : List ℕ → List ℕ → Type 0
TextIs bytes text = (rest : List ℕ → Expected) → with_text rest bytes ≡ rest text

pub script_known : (secret : Secret) (bytes text : List ℕ) (batches : List Batch) (r : Result Report Stop) → TextIs bytes text → IsScript text batches
    → Answers (Seals secret batches) r → Answers (script_expected secret bytes) r
script_known secret bytes text batches r goes is a =
    of_file (λ rest. with_text rest bytes) text (λ t. OfScript t (Seals secret)) r goes
    (of_script text batches (Seals secret) r is a)

pub script_stops : {A : Type 0} (view : A → List Batch) (secret : Secret) (bytes text : List ℕ) (stop : Stop) → TextIs bytes text → ReadsText view (IsScript text) (IsRefusedScript text) (Err stop)
    → Answers (script_expected secret bytes) (Err stop)
script_stops view secret bytes text stop goes reads =
    of_file (λ rest. with_text rest bytes) text (λ t. OfScript t (Seals secret)) (Err stop) goes
    (of_no_script view text stop (Seals secret) reads)

pub text_stops : {A : Type 0} (view : A → List ℕ) (secret : Secret) (bytes : List ℕ) (stop : Stop) → GoesOn view (λ rest. with_text rest bytes) (Err stop) → Answers (script_expected secret bytes) (Err stop)
text_stops view secret bytes stop goes = of_stop view (λ rest. with_text rest bytes) stop (λ t. OfScript t (Seals secret)) goes

abbrev SeedIs : List ℕ → PlainShape → Secret → Files → Type 0
SeedIs name shape secret known = (rest : Secret → Expected) → with_seed known name shape rest ≡ rest secret

pub seal_known : (name script : List ℕ) (shape : PlainShape) (secret : Secret) (bytes : List ℕ) (o p : Option Files) (r : Result Report Stop) → p ≡ o → IfSome o (SeedIs name shape secret)
    → IfSome p (FileIs script script_limit bytes) → Answers (script_expected secret bytes) r → IfSome o (λ known. Answers (seal_expected name script shape known) r)
seal_known name script shape secret bytes o p r same k f a = step o k (subst (λ z. IfSome z (FileIs script script_limit bytes)) same f)
  where
    step : (o : Option Files) → IfSome o (SeedIs name shape secret) → IfSome o (FileIs script script_limit bytes) → IfSome o (λ known. Answers (seal_expected name script shape known) r)
    step None k f = tt
    step (Some known) k f =
        of_file (with_seed known name shape) secret (λ s. with_file known script script_limit (script_expected s)) r k
        (of_file (with_file known script script_limit) bytes (script_expected secret) r f a)

-- want of memory is no answer
pub no_answer : (at : Option ℕ) (answer : Result Answer CheckFault) (output : Output) → answer ≡ Err NoMemoryToCheck → check_output at answer ≡ Some output → ⊥
no_answer at answer output e is = let silent : check_output at answer ≡ None = ap (check_output at) e in absurd (cc)

-- Two replies of which one is refused.
pub meet_refused : (met : Result MetReplies MeetFault) (why : MeetFault) (r : Result Report Stop) (key : List ℕ) (q : Query) (first second : List ℕ) → met ≡ Err why
    → ((expected : Expected) → ((output : Output) → meet_output (Err why) ≡ Some output → Allows expected output) → Answers expected r)
    → (met ≡ Err NoMemory) ⊎ RepliesMeet key q first second (met_of met) → Answers (Meets key q first second) r
meet_refused met why r key q first second is refuses told = refuses (Meets key q first second) (λ output e. allowed output e told)
  where
    allowed : (output : Output) → meet_output (Err why) ≡ Some output → (met ≡ Err NoMemory) ⊎ RepliesMeet key q first second (met_of met) → Allows (Meets key q first second) output
    allowed output e (inl none) =
        let silent : meet_output (Err why) ≡ None = ap (λ (m : Result MetReplies MeetFault). meet_output (met_of m)) (sym is ∙ none) in absurd (cc)
    allowed output e (inr meet) = (Err why, subst (λ (m : Result MetReplies MeetFault). RepliesMeet key q first second (met_of m)) is meet, e)
