use Rattle.std.proofs.Common.{IsTrue, map, vec_items, sym, ap, ◌∙◌, subst}
use Rattle.vote_steps.specs.Boxes.{BoxState, IsLegal}
use Rattle.vote_steps.specs.History.{is_closed}
use Rattle.vote_desks_box.specs.Books.{MeetsBooks}
use Rattle.vote_desks_box.specs.Desks.{HeldState}
use Rattle.vote_desks_box.proofs.sealed.seal.Goals as goal

pub returns-clause-books : goal.returns-clause-books
returns-clause-books g c =
    subst (λ (b : BoxState). MeetsBooks c.args.desks b (map vec_items c.in_ok-slips_by_desk.slips_by_desk.items)) (sym (ap (λ (h : HeldState). h.ballot_box) (c.held.view_is ∙ c.in_ok-slips_by_desk.ensures.held))) c.in_ok-slips_by_desk.ensures.books

pub returns-clause-legal : goal.returns-clause-legal
returns-clause-legal g c =
    subst IsLegal (sym (ap (λ (h : HeldState). h.ballot_box) (c.held.view_is ∙ c.in_ok-slips_by_desk.ensures.held))) c.close.ensures.legal
