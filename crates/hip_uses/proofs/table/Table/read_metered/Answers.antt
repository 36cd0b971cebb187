use Rattle.std.proofs.Common.{◌≡◌, ◌∙◌, ◌<◌, ◌≤◌, ◌∷◌, length, map, get_or, vec_len, ap, sym, subst, arith, ⊎_elim, Vec, Global}
use Rattle.std.proofs.lemmas.Bool.{cases_lt}
use Rattle.std.proofs.lemmas.List.{get_or_default}
use Rattle.hipstr.specs.Handle.{Handle}
use Rattle.hip_uses.specs.Cells.{AllParts}
use Rattle.hip_uses.proofs.Tables.{even-rows, ragged, read-whole, row_of, table-parts}
use Rattle.hip_uses.proofs.table.Table.read_metered.Goals as goal

pub returns-in_default-clause-fault : goal.returns-in_default-clause-fault
returns-in_default-clause-fault g c = sym c.new-records.ensures.rest ∙ c.in_default.ensures.first.0

pub returns-then-len-clause-fault : goal.returns-then-len-clause-fault
returns-then-len-clause-fault g c = (
  row_of c.in_ok-header.header,
  map row_of c.in_ok-rows.rows.items,
  read-whole _ _ c.new-records.result c.next_record_metered.new.self c.in-Some.header c.in_ok-header.header c.in_ok-rows.rows.items c.new-records.ensures.rest c.in-Some.ensures.first c.in_ok-header.was c.in_ok-rows.ensures.records,
  grind (arith, ragged c.in_ok-header.header c.in_ok-rows.rows.items c.loop-i.i c.row-item.result),
)

pub loop-i-preserved : goal.loop-i-preserved
loop-i-preserved g c =
    let rows = c.deref-row-items.result.now in
    let width = vec_len c.in_ok-header.header in
    let here : vec_len c.row-item.result ≡ width = sym c.len.ensures ∙ c.if-len.false ∙ c.len-in-loop-i.ensures in
    λ k other low. ⊎_elim (λ (lt : k < c.loop-i.i). c.loop-i.invariant k other lt)
    (λ (ge : c.loop-i.i ≤ k).
    let place : k ≡ c.loop-i.i = omega arith in
    ap (λ n. vec_len (get_or rows n other)) place ∙ ap vec_len (get_or_default rows c.loop-i.i other c.row-item.result (omega arith)) ∙ sym (ap vec_len c.row-item.is) ∙ here)
    (cases_lt k c.loop-i.i)

pub invariant_of-result : goal.invariant_of-result
invariant_of-result g c =
    let inside : c.deref-row-items.result.now ≡ c.in_ok-rows.rows.items = c.deref-row-items.ensures.value in
    λ k other low. ap (λ l. vec_len (get_or l k other)) (sym inside) ∙ c.loop-i.invariant k other (omega (arith, ap length inside))

pub returns-clause-read : goal.returns-clause-read
returns-clause-read g c =
    sym (read-whole _ _ c.new-records.result c.next_record_metered.new.self c.in-Some.header c.in_ok-header.header c.in_ok-rows.rows.items c.new-records.ensures.rest c.in-Some.ensures.first c.in_ok-header.was c.in_ok-rows.ensures.records)

pub returns-clause-even : goal.returns-clause-even
returns-clause-even g c =
    let inside : c.deref-row-items.result.now ≡ c.in_ok-rows.rows.items = c.deref-row-items.ensures.value in
    even-rows c.in_ok-header.header c.in_ok-rows.rows.items
    (λ k other low. ap (λ l. vec_len (get_or l k other)) (sym inside) ∙ c.loop-i.invariant k other (omega (arith, ap length inside)))

pub returns-clause-fields : goal.returns-clause-fields
returns-clause-fields g c =
    subst (λ (source : Handle). AllParts source (c.in_ok-header.header.items ∷ map (λ (row : Vec Handle Global). row.items) c.in_ok-rows.rows.items)) c.new-records.ensures.source
    (table-parts _ c.new-records.result c.next_record_metered.new.self c.in-Some.header c.in_ok-header.header c.in_ok-rows.rows.items c.in-Some.ensures.source c.in-Some.ensures.first c.in_ok-header.was c.in_ok-rows.ensures.records)
