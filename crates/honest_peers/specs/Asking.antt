-- A question in which nothing is wrong.
use Rattle.std.specs.Prelude.{◌≡◌, ℕ, ◌<◌, ◌^◌, List, [], ◌∷◌, length, take, Option, Some, None, IfSome, IsTrue}
use Rattle.std.specs.Str.{IsUtf8}
use Rattle.outside.specs.Shelf.{Files}
use Rattle.link_frames.specs.Scripts.{Event, Puts}
use Rattle.vo_spec.specs.declared.tables.Command.{Command}
use Rattle.vo_spec.specs.Conditions.{Query}
use Rattle.vo_store.specs.StoreState.{StoreState}
use Rattle.vo_spec.specs.Keys.{is_public_key}
use Rattle.vo_commands.specs.Expected.{question_frame}
use Rattle.vo_commands.specs.Texts.{IsQueryText}
use Rattle.honest_peers.specs.Answering.{AreServed}

-- what `ask` puts of a text, and of the version that it asks for, if it asks for one
abbrev pub question : Option ℕ → List ℕ → List (Event (Unit {0}))
question at text = Puts (question_frame at text) ∷ []

-- the version that is asked for, or the newest, and the batches behind which it stands
abbrev pub version_asked : Option ℕ → List (List Command) → ℕ
version_asked None batches = length batches
version_asked (Some version) batches = version

abbrev pub batches_asked : Option ℕ → List (List Command) → List (List Command)
batches_asked None batches = batches
batches_asked (Some version) batches = take version batches

-- The key file holds the store's key, the text is this query, the version that is asked for, if one
-- is, has 64 bits, and the store serves the connection on which it is asked.
pub record IsAsked (key text : List ℕ) (at : Option ℕ) (files : Files) (s : StoreState) (q : Query)
    (coming : List ℕ) : Type 0 where
  pub key_is : files key ≡ Some s.key
  pub is_key : IsTrue (is_public_key s.key)
  pub is_text : IsUtf8 text
  pub is_query : IsQueryText text q
  pub is_version : IfSome at (λ version. version < 2 ^ 64)
  pub served : (later : StoreState) × AreServed s (question at text) coming later
