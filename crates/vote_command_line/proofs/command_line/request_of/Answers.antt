-- Each command has the request of its options: the function of the subcommand that `clap` found is called.
use Rattle.std.proofs.Common.{◌≡◌, ◌∙◌, IfNone, IfSome, List, Option, Some, None, ap, option_map, subst, sym, unwrap_or}
use Rattle.clap.specs.Words.{Row, Text, found_of, rows_of, subcommand_name_of, subcommand_rows_of}
use Rattle.clap.specs.declared.parser.matches.ArgMatches.{ArgMatches}
use Rattle.clap.specs.declared.parser.matches.ArgMatches.TheViews.{out-ArgMatches}
use Rattle.vote_command_line.specs.ParsedArgs.{HasValues, IsRequestOf, IsSubcommandOf, NamedRequest}
use Rattle.vote_command_line.proofs.command_line.request_of.Goals as goal

-- a name and rows from one subcommand
joined : {S : Type 0} (name_at : S → Text) (rows_at : S → List Row) (sub : Option S) (name : Text) (rows : List Row) → Some name ≡ option_map name_at sub
    → Some rows ≡ option_map (λ (p : Text × List Row). p.1) (option_map {U = Text × List Row} (λ s. (name_at s, rows_at s)) sub) → option_map {U = Text × List Row} (λ s. (name_at s, rows_at s)) sub ≡ Some (name, rows)
joined name_at rows_at None name rows is has = cc
joined name_at rows_at (Some s) name rows is has = cc

entered : (m : ArgMatches) (name told : Text) (rows : List Row) → Some name ≡ subcommand_name_of m → Some rows ≡ option_map (λ (p : Text × List Row). p.1) (subcommand_rows_of m) → name ≡ told
    → subcommand_rows_of m ≡ Some (told, rows)
entered m name told rows is has same = joined _ _ (out-ArgMatches m).subcommand name rows is has ∙ ap (λ n. Some (n, rows)) same

asks : (sub : Option (Text × List Row)) (name : Text) (rows : List Row) (result : Option NamedRequest) → sub ≡ Some (name, rows) → IsRequestOf name rows result → IfSome result (IsSubcommandOf sub)
asks sub name rows None is request_is = tt
asks sub name rows (Some request) is request_is = (rows, is ∙ ap (λ n. Some (n, rows)) (sym request_is.0), request_is.1)

asks_none : (sub : Option (Text × List Row)) (name : Text) (rows : List Row) (result : Option NamedRequest) → sub ≡ Some (name, rows) → IsRequestOf name rows result
    → IfNone result ((request : NamedRequest) → IsSubcommandOf sub request → ⊥)
asks_none sub name rows (Some request) is request_is = tt
asks_none sub name rows None is none = λ request has.
    let same = sym is ∙ has.1 in
    none request (ap (λ (o : Option (Text × List Row)). (unwrap_or o (name, rows)).0) (sym same)) (subst (λ r. HasValues r request) (ap (λ (o : Option (Text × List Row)). (unwrap_or o (name, rows)).1) (sym same)) has.2)

pub returns-in-count-clause-found : goal.returns-in-count-clause-found
returns-in-count-clause-found c =
    asks _ _ _ c.count_request.result (entered c.args.matches.now _ _ (rows_of (found_of c.in_ok-name.given.now)) c.in_ok-name.ensures.name c.in_ok-name.ensures.rows c.in-count.is) c.count_request.ensures

pub returns-in-count-clause-none : goal.returns-in-count-clause-none
returns-in-count-clause-none c =
    asks_none _ _ _ c.count_request.result (entered c.args.matches.now _ _ (rows_of (found_of c.in_ok-name.given.now)) c.in_ok-name.ensures.name c.in_ok-name.ensures.rows c.in-count.is) c.count_request.ensures

pub returns-in-steps-clause-found : goal.returns-in-steps-clause-found
returns-in-steps-clause-found c =
    asks _ _ _ c.list_request.result (entered c.args.matches.now _ _ (rows_of (found_of c.in_ok-name.given.now)) c.in_ok-name.ensures.name c.in_ok-name.ensures.rows c.in-steps.is) c.list_request.ensures

pub returns-in-steps-clause-none : goal.returns-in-steps-clause-none
returns-in-steps-clause-none c =
    asks_none _ _ _ c.list_request.result (entered c.args.matches.now _ _ (rows_of (found_of c.in_ok-name.given.now)) c.in_ok-name.ensures.name c.in_ok-name.ensures.rows c.in-steps.is) c.list_request.ensures

pub returns-in-check-clause-found : goal.returns-in-check-clause-found
returns-in-check-clause-found c =
    asks _ _ _ c.check_request.result (entered c.args.matches.now _ _ (rows_of (found_of c.in_ok-name.given.now)) c.in_ok-name.ensures.name c.in_ok-name.ensures.rows c.in-check.is) c.check_request.ensures

pub returns-in-check-clause-none : goal.returns-in-check-clause-none
returns-in-check-clause-none c =
    asks_none _ _ _ c.check_request.result (entered c.args.matches.now _ _ (rows_of (found_of c.in_ok-name.given.now)) c.in_ok-name.ensures.name c.in_ok-name.ensures.rows c.in-check.is) c.check_request.ensures

pub returns-in-explain-clause-found : goal.returns-in-explain-clause-found
returns-in-explain-clause-found c =
    asks _ _ _ c.explain_request.result (entered c.args.matches.now _ _ (rows_of (found_of c.in_ok-name.given.now)) c.in_ok-name.ensures.name c.in_ok-name.ensures.rows c.in-explain.is) c.explain_request.ensures

pub returns-in-explain-clause-none : goal.returns-in-explain-clause-none
returns-in-explain-clause-none c =
    asks_none _ _ _ c.explain_request.result (entered c.args.matches.now _ _ (rows_of (found_of c.in_ok-name.given.now)) c.in_ok-name.ensures.name c.in_ok-name.ensures.rows c.in-explain.is) c.explain_request.ensures

pub returns-in-standing-clause-found : goal.returns-in-standing-clause-found
returns-in-standing-clause-found c =
    asks _ _ _ c.list_request-in-standing.result (entered c.args.matches.now _ _ (rows_of (found_of c.in_ok-name.given.now)) c.in_ok-name.ensures.name c.in_ok-name.ensures.rows c.in-standing.is) c.list_request-in-standing.ensures

pub returns-in-standing-clause-none : goal.returns-in-standing-clause-none
returns-in-standing-clause-none c =
    asks_none _ _ _ c.list_request-in-standing.result (entered c.args.matches.now _ _ (rows_of (found_of c.in_ok-name.given.now)) c.in_ok-name.ensures.name c.in_ok-name.ensures.rows c.in-standing.is) c.list_request-in-standing.ensures

pub returns-in-verify-clause-found : goal.returns-in-verify-clause-found
returns-in-verify-clause-found c =
    asks _ _ _ c.verify_request.result (entered c.args.matches.now _ _ (rows_of (found_of c.in_ok-name.given.now)) c.in_ok-name.ensures.name c.in_ok-name.ensures.rows c.in-verify.is) c.verify_request.ensures

pub returns-in-verify-clause-none : goal.returns-in-verify-clause-none
returns-in-verify-clause-none c =
    asks_none _ _ _ c.verify_request.result (entered c.args.matches.now _ _ (rows_of (found_of c.in_ok-name.given.now)) c.in_ok-name.ensures.name c.in_ok-name.ensures.rows c.in-verify.is) c.verify_request.ensures

pub returns-in-picture-clause-found : goal.returns-in-picture-clause-found
returns-in-picture-clause-found c =
    asks _ _ _ c.count_request-in-picture.result (entered c.args.matches.now _ _ (rows_of (found_of c.in_ok-name.given.now)) c.in_ok-name.ensures.name c.in_ok-name.ensures.rows c.in-picture.is) c.count_request-in-picture.ensures

pub returns-in-picture-clause-none : goal.returns-in-picture-clause-none
returns-in-picture-clause-none c =
    asks_none _ _ _ c.count_request-in-picture.result (entered c.args.matches.now _ _ (rows_of (found_of c.in_ok-name.given.now)) c.in_ok-name.ensures.name c.in_ok-name.ensures.rows c.in-picture.is) c.count_request-in-picture.ensures
