-- What is true of every listing and every page.
use Rattle.std.specs.Prelude.{ℕ, ◌≡◌, ◌≤◌, ◌++◌, List, length, take}
use Rattle.scm_model.specs.declared.flat.ProcessStatus.{ProcessStatus}
use Rattle.scm_model.specs.declared.flat.Service.{Service}
use Rattle.service_listing.specs.Layout.{listing_bytes, listing_size, process_status_bytes}
use Rattle.service_listing.specs.Pages.{left_of, page_in}

-- a page is a front of the services; it fits, and no longer front does
pub record IsLongestFit (size : ℕ) (rows : List Service) : Type 0 where
  pub front : page_in size rows ++ left_of size rows ≡ rows
  pub fits : listing_size (page_in size rows) ≤ size
  pub longest : (n : ℕ) → listing_size (take n rows) ≤ size → length (take n rows) ≤ length (page_in size rows)

-- bytes have the sizes that are computed for them
pub record HaveTheirSizes : Type 0 where
  pub listing : (rows : List Service) → length (listing_bytes rows) ≡ listing_size rows
  pub status : (s : ProcessStatus) → length (process_status_bytes s) ≡ 36
