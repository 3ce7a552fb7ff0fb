-- Replacing each number of dimensions in a type by 1 is idempotent.
use Rattle.std.proofs.Common.{◌≡◌, Bool, true, false, refl, ap}
use Rattle.ti_lang.specs.Program.Types.{ValueType, Int, Long, Boolean, Pt, Rc, Dm, Region, Class, Grid, Null, Void}
use Rattle.ti_lang.specs.Typing.Alike.{erase_dims}
use Rattle.ti_lang.specs.Typing.TyRef.{erase_dims_if}

one_dim_twice : (t : ValueType) → erase_dims (erase_dims t) ≡ erase_dims t
one_dim_twice (Grid t n local) = ap (λ u. Grid u 1 local) (one_dim_twice t)
one_dim_twice Int = refl
one_dim_twice Long = refl
one_dim_twice Boolean = refl
one_dim_twice (Pt n) = refl
one_dim_twice (Rc n) = refl
one_dim_twice (Dm n) = refl
one_dim_twice Region = refl
one_dim_twice (Class c local) = refl
one_dim_twice Null = refl
one_dim_twice Void = refl

pub erased_again : (any : Bool) (t : ValueType) → erase_dims (erase_dims_if any t) ≡ erase_dims t
erased_again true t = one_dim_twice t
erased_again false t = refl
