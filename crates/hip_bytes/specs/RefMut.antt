-- A value that is lent out as a vector, by a guard.
use Rattle.std.specs.Prelude.{ℕ, List}
use Rattle.std.specs.Borrow.{GName, RattleType, u8}
use Rattle.std.specs.contracts.alloc.Global as global
use Rattle.std.specs.contracts.vec.Vec as vec
use Rattle.std.specs.contracts.impls.GlobalAllocator.TheImpl.{ghosts}
use Rattle.std.specs.declared.vec.Vec.{Vec}
use Rattle.std.specs.declared.alloc.Global.{Global}
use Rattle.hip_bytes.specs.declared.ref_mut.RefMut.{RefMut}

-- the lent vector, its bytes, and the value that it was taken from
abbrev pub lent_vec : {S V P : Type 0} → RefMut S V P → V
lent_vec guard = guard.vec

abbrev pub lent_items : {S P : Type 0} → RefMut S (Vec ℕ Global) P → List ℕ
lent_items guard = guard.vec.items

abbrev pub lent_source : {S V P : Type 0} → RefMut S V P → S
lent_source guard = guard.source.now

-- the reference by which the guard holds that value
abbrev pub lender : {S V P : Type 0} → RefMut S V P → GName
lender guard = guard.source.ghost_name

-- the guard with another vector
abbrev pub with_vec : {S V P : Type 0} → RefMut S V P → V → RefMut S V P
with_vec guard v = record guard { vec = v }

-- the row of a vector of bytes in the logic of loans
abbrev pub bytes_row : RattleType
bytes_row = vec.the_row u8 global.the_row ghosts
