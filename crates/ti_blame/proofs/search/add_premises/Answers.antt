use Rattle.std.proofs.Common.{◌≡◌, ◌<◌, ◌∙◌, Bool, false, List, take, length, get_or, refl, None}
use Rattle.std.specs.BTreeSet.{contains}
use Rattle.std.proofs.lemmas.List.Elements.{Contains-get_or}
use Rattle.ti_blame.specs.declared.reason.Reason.TheVariants.{OfMethod}
use Rattle.ti_blame.specs.declared.implication.Conclusion.TheVariants.{One}
use Rattle.ti_blame.specs.declared.implication.Implication.{Implication}
use Rattle.ti_blame.specs.Keys.{key_cmp}
use Rattle.ti_blame.specs.Mirrors.Search.{can_start, is_open}
use Rattle.ti_blame.proofs.Stepping.{one_more, none_at}
use Rattle.ti_blame.proofs.Linking.{extends_itself, extends_trans, joined_later, shut_later, none_of_fewer, starts_same}
use Rattle.ti_blame.proofs.search.add_premises.Goals as goal

pub loop-e-init : goal.loop-e-init
loop-e-init c = record { extends = extends_itself c.args.state.now; sound = c.requires.sound; links = c.requires.links; closed = λ h. refl }

pub add_premise-requires : goal.add_premise-requires
add_premise-requires c = joined_later c.args.state.now c.loop-e.state c.args.k c.args.reason c.loop-e.invariant.extends c.requires.joined

pub loop-e-preserved : goal.loop-e-preserved
loop-e-preserved c =
    let i = c.loop-e.invariant in
    let e = c.in_ok-add_premise.ensures in
    let s = c.args.state.now in
    let t = c.loop-e.state in
    let u = c.add_premise.new.state in
    let edges = c.args.implications.now in
    let d : Implication = record { from = None; then = One (OfMethod (record { line = 0; col = 0 })) } in
    let item = get_or edges c.loop-e.e-index d in
    record {
      extends = extends_trans s t u i.extends e.extends;
      sound = e.sound i.sound;
      links = e.links edges (Contains-get_or edges c.loop-e.e-index d c.loop-e-test.true) i.links;
      closed = λ h. one_more (is_open (contains key_cmp u.named) (contains key_cmp u.unseen) c.args.items.now c.args.reason) edges c.loop-e.e-index d c.loop-e-test.true
          (none_of_fewer (is_open (contains key_cmp t.named) (contains key_cmp t.unseen) c.args.items.now c.args.reason)
          (is_open (contains key_cmp u.named) (contains key_cmp u.unseen) c.args.items.now c.args.reason)
          (shut_later t u e.extends c.args.items.now c.args.reason) (take c.loop-e.e-index edges) (i.closed h))
          (e.closed (starts_same s t i.extends c.args.items.now c.args.reason item
          (none_at (can_start (contains key_cmp s.named) c.args.items.now c.args.reason) edges c.loop-e.e-index d c.loop-e-test.true h)));
    }
