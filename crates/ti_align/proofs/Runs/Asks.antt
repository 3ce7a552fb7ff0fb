-- What work asks for by itself is no collective.
use Rattle.std.proofs.Common.{◌≡◌, false, List, refl}
use Rattle.ti_base.specs.declared.entry.Answer.{Answer}
use Rattle.ti_lang.specs.Meaning.Comp.{Request}
use Rattle.ti_lang.specs.Meaning.Processes.{ContItem}
use Rattle.ti_lang.specs.Meaning.Scoping.{Env}
use Rattle.ti_lang.specs.Meaning.Performing.{exec_item}
use Rattle.ti_lang.specs.Meaning.Histories.{is_arrival, is_departure, is_end}
use Rattle.ti_lang.proofs.Lemmas.{Anyone, Each, any_first, performed_asks}
use Rattle.ti_align.proofs.Alignment.Stepping.{Alone}

abbrev IsAlone : Request → Type 0
IsAlone q = (is_arrival q.action ≡ false) × (is_departure q.action ≡ false) × (is_end q.action ≡ false)

own : Each Anyone IsAlone
own = record {
  get_field = λ r at f type. (refl, refl, refl);
  put_field = λ r at f value. (refl, refl, refl);
  get_elem = λ r at i type. (refl, refl, refl);
  put_elem = λ r at i value. (refl, refl, refl);
  make_view = λ r at view type. (refl, refl, refl);
  domain = λ r at type. (refl, refl, refl);
  new_object = λ at c r type. (refl, refl, refl);
  new_grid = λ at z d r type. (refl, refl, refl);
  print = λ at l value. (refl, refl, refl);
  take = λ at who type k. (refl, refl, refl);
}

-- what work asks for by itself is no collective
pub work_alone : (env : Env) (w : ContItem) (rest : List Answer) → Alone (exec_item env w rest)
work_alone env w rest = performed_asks Anyone IsAlone own env w rest (any_first w)
