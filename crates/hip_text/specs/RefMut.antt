-- A text that is lent out as a `String`, by a guard.
use Rattle.std.specs.Prelude.{ℕ, List}
use Rattle.std.specs.Borrow.{GName, RattleType}
use Rattle.std.specs.String.{string_bytes}
use Rattle.std.specs.contracts.alloc.Global as global
use Rattle.std.specs.contracts.string.String as string
use Rattle.std.specs.contracts.impls.GlobalAllocator.TheImpl.{ghosts}
use Rattle.std.specs.declared.string.String.{String}
use Rattle.std.specs.declared.alloc.Global.{Global}
use Rattle.hip_text.specs.declared.ref_mut.RefMut.{RefMut}

-- the lent `String`, its bytes, and the text that it was taken from
abbrev pub lent_string : {S V P : Type 0} → RefMut S V P → V
lent_string guard = guard.string

abbrev pub lent_items : {S P : Type 0} → RefMut S (String Global) P → List ℕ
lent_items guard = string_bytes guard.string

abbrev pub lent_source : {S V P : Type 0} → RefMut S V P → S
lent_source guard = guard.source.now

-- the reference by which the guard holds that text
abbrev pub lender : {S V P : Type 0} → RefMut S V P → GName
lender guard = guard.source.ghost_name

-- the guard with another `String`
abbrev pub with_string : {S V P : Type 0} → RefMut S V P → V → RefMut S V P
with_string guard v = record guard { string = v }

-- the row of a `String` in the logic of loans
abbrev pub string_row : RattleType
string_row = string.the_row global.the_row ghosts
