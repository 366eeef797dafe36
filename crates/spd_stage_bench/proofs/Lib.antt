mod PartsLaws
