-- The command line: its commands, and the words and options of each.
use Rattle.std.specs.Prelude.{true, List, [], ◌∷◌, fold, Some, codes}
use Rattle.clap.specs.Words.{App, Rule, Text, new_app, new_rule, with_rule, with_subcommand}
use Rattle.clap.specs.Simple.{on_top}

-- a word that must be there
abbrev pub word_rule : Text → Rule
word_rule id = record (new_rule id) { required = true }

-- `--name V` or `--name=V`, or nothing
abbrev pub option_rule : Text → Rule
option_rule id = record (new_rule id) { long = Some id }

abbrev pub command_of : Text → List Rule → App
command_of name rules = fold with_rule (new_app name) rules

-- of the key that a seed makes
abbrev pub key_rules : List Rule
key_rules = option_rule (codes "height") ∷ option_rule (codes "levels") ∷ []

abbrev pub keygen_app : App
keygen_app =
    command_of (codes "keygen") (word_rule (codes "seed") ∷ key_rules)

abbrev pub seal_app : App
seal_app = command_of (codes "seal")
    (word_rule (codes "seed") ∷ word_rule (codes "script") ∷ key_rules)

abbrev pub own_app : App
own_app = command_of (codes "own")
    (word_rule (codes "seed") ∷ word_rule (codes "address") ∷ word_rule (codes "script")
    ∷ key_rules)

abbrev pub answer_app : App
answer_app = command_of (codes "answer")
    (word_rule (codes "key") ∷ word_rule (codes "journal") ∷ word_rule (codes "query")
    ∷ option_rule (codes "at") ∷ [])

abbrev pub serve_app : App
serve_app = command_of (codes "serve")
    (word_rule (codes "address") ∷ word_rule (codes "key") ∷ word_rule (codes "journal")
    ∷ word_rule (codes "count") ∷ [])

abbrev pub check_app : App
check_app = command_of (codes "check")
    (word_rule (codes "key") ∷ word_rule (codes "query") ∷ word_rule (codes "reply")
    ∷ option_rule (codes "least") ∷ [])

abbrev pub ask_app : App
ask_app = command_of (codes "ask")
    (word_rule (codes "address") ∷ word_rule (codes "key") ∷ word_rule (codes "query")
    ∷ option_rule (codes "at") ∷ option_rule (codes "least") ∷ [])

abbrev pub audit_app : App
audit_app = command_of (codes "audit")
    (word_rule (codes "key") ∷ word_rule (codes "journal") ∷ word_rule (codes "query")
    ∷ word_rule (codes "reply") ∷ option_rule (codes "seed") ∷ key_rules)

abbrev pub meet_app : App
meet_app = command_of (codes "meet")
    (word_rule (codes "key") ∷ word_rule (codes "query") ∷ word_rule (codes "first")
    ∷ word_rule (codes "second") ∷ [])

abbrev pub gen_app : App
gen_app = command_of (codes "gen") (word_rule (codes "steps") ∷ word_rule (codes "number") ∷ [])

-- a command line of which a command must be used
abbrev pub empty_app : App
empty_app = on_top (λ shape. record shape { subcommand_required = true }) (new_app (codes "vo_cli"))

abbrev pub with_command : App → App → App
with_command program command = with_subcommand program command.top

-- what the owner does
abbrev pub with_owner : App → App
with_owner program = with_command (with_command (with_command program keygen_app) seal_app) own_app

-- what the store does
abbrev pub with_store : App → App
with_store program = with_command (with_command program answer_app) serve_app

-- what clients and auditors do
abbrev pub with_client : App → App
with_client program =
    with_command (with_command (with_command (with_command program check_app) ask_app) audit_app)
    meet_app

abbrev pub program_app : App
program_app = with_command (with_client (with_store (with_owner empty_app))) gen_app
