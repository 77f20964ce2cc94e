-- A request is returned only for words in which `clap` finds no fault, and each fault has its reason in them.
use Rattle.std.proofs.Common.{List, [], Option, ◌≡◌, ◌≢◌, ◌∙◌, ap, refl, subst, sym, true, inl, inr}
use Rattle.clap.proofs.OnLiterals.{clap_on_literals}
use Rattle.clap.specs.Faults.{fault_of, is_simple_and_free}
use Rattle.clap.specs.Kinds.{HasKind, IsAmong, Kinds}
use Rattle.clap.specs.Values.{kind_of}
use Rattle.clap.specs.Words.{App, Row, Text, is_simple, subcommand_of}
use Rattle.clap.specs.declared.error.Error.{Error}
use Rattle.clap.specs.declared.error.kind.ErrorKind.{ErrorKind}
use Rattle.vote_command_line.specs.CommandLine.{debvote_command}
use Rattle.vote_command_line.specs.ParsedArgs.{AsksForHelp, IsArgsFault, IsFaultOfKind, IsRefusal, IsSubcommandOf, NamedRequest}
use Rattle.vote_command_line.specs.Words.{texts_of}
use Rattle.vote_command_line.specs.declared.command_line.ArgsFault.{ArgsFault}
use Rattle.vote_command_line.specs.declared.command_line.ArgsFault.TheVariants.{Help, Refused, NotUtf8, Memory}
use Rattle.vote_command_line.proofs.command_line.parse_args_with.Goals as goal

free : is_simple_and_free debvote_command ≡ true
unfolding clap_on_literals
free = refl

simple : is_simple debvote_command ≡ true
unfolding clap_on_literals
simple = refl

-- an error that asks for help is one of its kinds
asked : (kinds : Kinds) (error : Error) → HasKind kinds error → AsksForHelp (kind_of error) → (k : ErrorKind) × AsksForHelp k × IsAmong k kinds
asked kinds error (inl memory) (inl asks) = cc
asked kinds error (inl memory) (inr asks) = cc
asked kinds error (inr among) asks = (kind_of error, asks, among)

-- an error that refuses is one of its kinds
refused : (kinds : Kinds) (error : Error) → HasKind kinds error → IsRefusal (kind_of error) → (k : ErrorKind) × IsRefusal k × IsAmong k kinds
refused kinds error (inl memory) by = absurd (by.2 memory)
refused kinds error (inr among) by = (kind_of error, by, among)

-- no request, if `clap` finds an error
at_fault : (kinds : Kinds) (subcommand : Option (Text × List Row)) (error : Error) (fault : ArgsFault) → HasKind kinds error → (fault ≢ Memory → IsFaultOfKind (kind_of error) fault)
    → IsArgsFault kinds subcommand fault
at_fault kinds subcommand error (Help text) has by = asked kinds error has (by (λ e. cc))
at_fault kinds subcommand error (Refused text) has by = inl (refused kinds error has (by (λ e. cc)))
at_fault kinds subcommand error NotUtf8 has by = by (λ e. cc)
at_fault kinds subcommand error Memory has by = tt

pub returns-in-Err-clause-no_request : goal.returns-in-Err-clause-no_request
returns-in-Err-clause-no_request c =
    let same = c.requires.app in
    let texts = texts_of c.args.words.now in
    let P : App → Type 0 = λ command. HasKind (fault_of command texts) c.in-Err.error in
    let has = subst P same (c.in-Err.ensures.kinds (ap is_simple_and_free same ∙ free)) in
    at_fault (fault_of debvote_command texts) (subcommand_of debvote_command texts) c.in-Err.error c.args_fault_of.result has c.args_fault_of.ensures

-- no request, if the words ask for none: a refusal with the usage
without_request : (kinds : Kinds) (subcommand : Option (Text × List Row)) (fault : ArgsFault) → ((text : _) → fault ≢ Help text) → fault ≢ NotUtf8
    → ((request : NamedRequest) → IsSubcommandOf subcommand request → ⊥) → IsArgsFault kinds subcommand fault
without_request kinds subcommand (Help text) no_help read none = absurd (no_help text refl)
without_request kinds subcommand (Refused text) no_help read none = inr none
without_request kinds subcommand NotUtf8 no_help read none = read refl
without_request kinds subcommand Memory no_help read none = tt

pub returns-clause-no_request : goal.returns-clause-no_request
returns-clause-no_request c =
    let same = c.requires.app in
    let found = c.in-Ok.ensures.ok.2 (ap is_simple same ∙ simple) in
    without_request _ _ c.no_request.result c.no_request.ensures.refuses c.no_request.ensures.read (λ request asks.
    c.in-None.ensures.none request (asks.0, found.1 ∙ ap (λ (command : App). subcommand_of command (texts_of c.args.words.now)) same ∙ asks.1, asks.2))

pub returns-in-Some-clause-ok : goal.returns-in-Some-clause-ok
returns-in-Some-clause-ok c =
    let same = c.requires.app in
    let texts = texts_of c.args.words.now in
    let accepted : fault_of debvote_command texts ≡ [] =
    ap (λ (command : App). fault_of command texts) (sym same) ∙ c.in-Ok.ensures.kinds (ap is_simple_and_free same ∙ free) in
    let found = c.in-Ok.ensures.ok.2 (ap is_simple same ∙ simple) in
    let asks = c.in-Some.ensures.found in
    (accepted, (asks.0, sym (found.1 ∙ ap (λ (command : App). subcommand_of command texts) same) ∙ asks.1, asks.2))
