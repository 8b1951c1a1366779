-- Writing pieces one after the other, as a loop does.
use Rattle.std.proofs.Common.{◌≡◌, ◌≤◌, ◌<◌, ◌+◌, ℕ, List, length, map, get_or, drop, Option, None, refl}
use Rattle.std.proofs.lemmas.List.{drop_all, drop_more}
use Rattle.ndr_body.specs.Writing.{Draft, put_text}
use Rattle.scm_shapes.specs.declared.item.Piece.{Piece}
use Rattle.scm_shapes.specs.Each.{put_each}
use Rattle.scm_shapes.specs.Records.{put_mark, put_marks}
use Rattle.scm_shapes.specs.Shapes.{value_of, put_value, put_values}
use Rattle.scm_shapes.proofs.Loop.{at_index}
use Rattle.scm_shapes.proofs.Widths.{grows_values, grows_each, grows_marks}

-- the pieces from an index on, one of which is put
pub piece_more : (pieces : List Piece) (i : ℕ) (piece : Piece) (d : Draft) → i < length pieces → piece ≡ get_or pieces i piece
    → put_values (map value_of (drop i pieces)) d ≡ put_values (map value_of (drop (i + 1) pieces)) (put_value (value_of piece) d)
unfolding put_values
piece_more pieces i piece d lt is = rw (at_index pieces i piece lt is) refl

pub no_piece : (pieces : List Piece) (i : ℕ) (d : Draft) → length pieces ≤ i → put_values (map value_of (drop i pieces)) d ≡ d
unfolding put_values
no_piece pieces i d le = rw (drop_all i pieces le) refl

pub piece_fits : (pieces : List Piece) (i : ℕ) (piece : Piece) (d : Draft) → i < length pieces → piece ≡ get_or pieces i piece
    → length (put_value (value_of piece) d).bytes ≤ length (put_values (map value_of (drop i pieces)) d).bytes
piece_fits pieces i piece d lt is = rw (piece_more pieces i piece d lt is)
    (grows_values (map value_of (drop (i + 1) pieces)) (put_value (value_of piece) d))

pub text_fits : (texts : List (List ℕ)) (i : ℕ) (text : List ℕ) (d : Draft) → i < length texts → text ≡ get_or texts i text
    → length (put_text text d).bytes ≤ length (put_each (drop i texts) d).bytes
text_fits texts i text d lt is = rw (at_index texts i text lt is) (grows_each (drop (i + 1) texts) (put_text text d))

pub mark_fits : (marks : List (Option ℕ)) (i : ℕ) (d : Draft) → i < length marks
    → length (put_mark (get_or marks i None) d).bytes ≤ length (put_marks (drop i marks) d).bytes
mark_fits marks i d lt = rw (drop_more marks i None lt) (grows_marks (drop (i + 1) marks) (put_mark (get_or marks i None) d))
