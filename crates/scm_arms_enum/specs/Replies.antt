-- What an enumeration that isn't denied is answered.
use Rattle.std.specs.Prelude.{ℕ, nat_lt, length, min, List, [], Option, option_map, if◌then◌else◌}
use Rattle.scm_model.specs.declared.flat.Service.{Service}
use Rattle.scm_model.specs.declared.calls.Reply.{Reply}
use Rattle.scm_model.specs.declared.calls.Reply.TheVariants as reply
use Rattle.scm_model.specs.declared.codes.TheConstants.{ERROR_MORE_DATA, MAX_ENUM_SIZE}
use Rattle.service_listing.specs.Layout.{listing_bytes, listing_size}
use Rattle.scm_rules.specs.EnumDependents.{told_size}
use Rattle.scm_rules.specs.EnumServices.{last_number, page_of}

-- all of the services, or how much is needed for them
abbrev pub listing_reply : ℕ → List Service → Reply
listing_reply size rows =
    if nat_lt size (listing_size rows) then reply.Listing size [] (told_size rows) 0 ERROR_MORE_DATA
    else reply.Listing size (listing_bytes rows) 0 (length rows) 0

-- the services of a page, how much is needed for those that are left, and the number of the last of the page
abbrev pub page_told : ℕ → Option ℕ → List Service → List Service → Reply
page_told size resume page left =
    reply.Page size (listing_bytes page) (min MAX_ENUM_SIZE (listing_size left)) (length page)
    (option_map (λ read. last_number read page) resume) ERROR_MORE_DATA

-- all of the services, or a page of them
abbrev pub page_reply : ℕ → Option ℕ → List Service → Reply
page_reply size resume rows =
    if nat_lt size (listing_size rows) then page_of size resume rows else reply.Page size (listing_bytes rows) 0 (length rows)
    (option_map (λ read. 0) resume) 0
