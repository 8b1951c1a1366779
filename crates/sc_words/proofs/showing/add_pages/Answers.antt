use Rattle.std.proofs.Common.{sym, ◌∙◌}
use Rattle.sc_words.proofs.Pages.{page_more, page_end}
use Rattle.sc_words.proofs.showing.add_pages.Goals as goal

pub loop-page-preserved : goal.loop-page-preserved
loop-page-preserved c =
    page_more c.args.heard.now c.loop-page.page-index c.page-item.result c.loop-page.text c.add_page.new.text c.loop-page-test.true
    c.page-item.is c.in_ok-add_page.ensures
    ∙ c.loop-page.invariant

pub returns : goal.returns
returns c = sym (page_end c.args.heard.now c.loop-page.page-index c.loop-page.text c.loop-page-test.false) ∙ c.loop-page.invariant
