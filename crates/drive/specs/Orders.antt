-- Orders: what a drive can be told. Each is one call of the trait, with what the call takes; the questions, which change
-- nothing, are no orders.
use Rattle.std.specs.Prelude.{◌≡◌, Bool, List, [], ◌∷◌, ℤ}
use Rattle.drive.specs.Values.{Values, after_step, after_feel, after_name, after_wake, after_sleep}

pub data Order : Type 0 where
  -- move by so many counts
  Step : ℤ → Order
  -- the encoder saw so many counts, and the drive is ready or not
  Feel : ℤ → Bool → Order
  -- the spot where the drive stands gets that number
  Name : ℤ → Order
  Wake : Order
  Sleep : Order

-- what an order makes of the four values; a step or a name that is refused leaves them
abbrev pub after_order : Order → Values → Values
after_order (Step s) v = after_step v s
after_order (Feel n ready) v = after_feel v n ready
after_order (Name p) v = after_name v p
after_order Wake v = after_wake v
after_order Sleep v = after_sleep v

-- what orders make of them, one after the other
abbrev pub after_orders : List Order → Values → Values
after_orders [] v = v
after_orders (o ∷ os) v = after_orders os (after_order o v)

-- These orders, one after the other, take the drive d to e: `obeys d o m` says that the order o takes d to m. Where nothing more is
-- known of `obeys`, only the calls themselves can show that, each made once and in this order.
abbrev pub Told : {D : Type 0} → (D → Order → D → Type 0) → D → List Order → D → Type 0
Told obeys d [] e = e ≡ d
Told {D = D} obeys d (o ∷ os) e = (m : D) × obeys d o m × Told obeys m os e
