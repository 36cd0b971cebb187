use Rattle.std.proofs.Common.{◌≡◌, ◌∙◌, ◌++◌, ap, sym, drop, length, take, arith}
use Rattle.std.proofs.lemmas.List.{append_assoc, drop-append-le, length-append, length-drop, length-take-le, take-append-drop, take-take}
use Rattle.std.proofs.lemmas.Simd.{put_chunk_is}
use Rattle.std.specs.Simd.Lanes.{put_chunk}
use Rattle.hip_raw.proofs.Lanes.{front_is}
use Rattle.hip_raw.proofs.meter.move_within_lane.Goals as goal

pub returns : goal.returns
returns c =
    let len = c.args.len in
    let list = c.args.list.now in
    let room = c.args.room.now in
    let read : length (take 16 list) ≡ 16 = length-take-le 16 list c.requires.goes_on in
    let kept : length (take 16 room) ≡ 16 = length-take-le 16 room c.requires.room in
    let lane = take len list ++ drop len (take 16 room) in
    let blended = front_is len 0 16 len (take 16 list) (take 16 room) (omega arith) c.requires.short read kept ∙ ap (λ l. l ++ drop len (take 16 room)) (take-take len 16 list c.requires.short) in
    let long : length lane ≡ 16 = omega (arith, c.requires.short, c.requires.goes_on, kept, length-take-le len list (omega (arith, c.requires.short, c.requires.goes_on)), length-append (take len list) (drop len (take 16 room)), length-drop len (take 16 room)) in
    let behind : drop len (take 16 room) ++ drop 16 room ≡ drop len room =
    sym (drop-append-le len (take 16 room) (drop 16 room) (omega (arith, c.requires.short, kept))) ∙ ap (drop len) (take-append-drop 16 room) in
    ap (put_chunk 0 room) blended ∙ put_chunk_is 0 room lane (omega (arith, long, c.requires.room)) ∙ ap (λ n. lane ++ drop n room) long
    ∙ append_assoc (take len list) (drop len (take 16 room)) (drop 16 room) ∙ ap (λ l. take len list ++ l) behind
