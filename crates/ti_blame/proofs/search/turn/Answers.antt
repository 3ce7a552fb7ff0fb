use Rattle.std.proofs.Common.{◌≡◌, ◌∙◌, ◌<◌, ℕ, List, length, get_or, ap, sym, subst}
use Rattle.std.proofs.lemmas.List.{get_or_default}
use Rattle.ti_blame.specs.declared.reason.Reason.{Reason}
use Rattle.ti_blame.specs.declared.chains.ChainStep.{ChainStep}
use Rattle.ti_blame.specs.declared.search.Link.{Link}
use Rattle.ti_blame.specs.Mirrors.Search.{WalksFrom}
use Rattle.ti_blame.proofs.Walking.{turned_found, turned_on}
use Rattle.ti_blame.proofs.search.turn.Goals as goal

pub returns-in_ok-steps-in-Some : goal.returns-in_ok-steps-in-Some
returns-in_ok-steps-in-Some c =
    let s = c.args.state.now in
    let k = c.args.k in
    let b = c.index.result.now.reason in
    let e = c.in-Some.implication in
    let here : (d : Link) → (get_or s.links.items k d).reason ≡ b = λ d. ap (λ (l : Link). l.reason) (get_or_default s.links.items k d c.index.result.now c.requires.within ∙ sym c.index.ensures) in
    let start : ChainStep = record { implication = e; ruled_out = b } in
    turned_found c.args.items.now c.args.implications.now s k b e c.in_ok-steps-in-Some.steps.items here c.requires.links (sym c.first_start.ensures ∙ c.in-Some.is)
    (subst (λ (links : List Link). WalksFrom links start k c.in_ok-steps-in-Some.steps.items) c.deref.ensures.value c.in_ok-steps-in-Some.ensures)

pub returns-in_ok-add_premises-in-None : goal.returns-in_ok-add_premises-in-None
returns-in_ok-add_premises-in-None c =
    let s = c.args.state.now in
    let t = c.add_premises.new.state in
    let k = c.args.k in
    let b = c.index.result.now.reason in
    let a = c.in_ok-add_premises-in-None.ensures in
    let here : (d : Link) → (get_or s.links.items k d).reason ≡ b = λ d. ap (λ (l : Link). l.reason) (get_or_default s.links.items k d c.index.result.now c.requires.within ∙ sym c.index.ensures) in
    turned_on c.args.items.now c.args.implications.now s t k b c.requires.within here (sym c.first_start.ensures ∙ c.in-None.is) a.extends a.sound a.links a.closed
