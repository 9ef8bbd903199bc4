-- What a read into the rest of a room leaves there. Assumes nothing.
use Rattle.std.proofs.Common.{◌≡◌, ℕ, ◌+◌, ◌≤◌, List, ◌++◌, length, take, ap, ◌∙◌}
use Rattle.std.proofs.lemmas.List.{take_at, take-append-le}
use Rattle.std.proofs.Math.Seq.{drop_at, length-take-le, take-add}
use borrow.Rule.Slice.PartMut.{put_mid, post_of}

-- n bytes of a part put behind the first `done` ones
pub part_taken : (done k n : ℕ) (room part : List ℕ) → done ≤ length room → n ≤ length part → take (done + n) (put_mid done k room part) ≡ take done room ++ take n part
part_taken done k n room part h within =
    let front = length-take-le done room h in
    take-add done n (put_mid done k room part)
    ∙ (λ i. take_at (take done room) (part ++ post_of done k room) done front i ++ take n (drop_at (take done room) (part ++ post_of done k room) done front i))
    ∙ ap (λ l. take done room ++ l) (take-append-le n part (post_of done k room) within)
